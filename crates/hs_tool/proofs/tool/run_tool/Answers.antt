use Rattle.std.proofs.Common.{◌∙◌}
use Rattle.hs_tool.proofs.Ending.{ends_empty, ends_failed, ends_early}
use Rattle.hs_tool.proofs.tool.run_tool.Goals as goal

pub returns-in_default : goal.returns-in_default
returns-in_default g c = ends_empty _ _ _ _ _ _ _

pub returns-in_default-text : goal.returns-in_default-text
returns-in_default-text g c = ends_empty _ _ _ _ _ _ _

pub returns-in-Err-Failed : goal.returns-in-Err-Failed
returns-in-Err-Failed g c =
    let is_text = c.as_bytes.ensures.value ∙ rw c.as_slice.ensures at c.in-Ok-text.ensures in
    ends_failed _ _ _ _ _ _ _ c.in-Ok.ensures _ is_text _ _ c.in-Err-Failed.ensures.part (rw c.in-Err-Failed.field-0-is at c.in-Err-Failed.ensures.cause)

pub returns : goal.returns
returns g c =
    let is_text = c.as_bytes.ensures.value ∙ rw c.as_slice.ensures at c.in-Ok-text.ensures in
    ends_early _ _ _ _ _ _ _ c.in-Ok.ensures _ is_text _ _ c.in-Err-Memory.ensures.part
