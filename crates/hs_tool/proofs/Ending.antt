-- How a run ends.
use Rattle.std.proofs.Common.{◌≡◌, inl, inr, ℕ, List, Option, take, sym, subst, ◌∙◌, arith}
use Rattle.std.specs.Io.KnownBytes.{Appends}
use Rattle.hs_io.specs.Faults.{Rose}
use Rattle.hs_cli.specs.declared.jobs.Job.{Job}
use Rattle.hs_print.specs.Line.{text_of}
use Rattle.hs_print.specs.declared.line.Line.{Line}
use Rattle.hs_tool.specs.Status.{status_of}
use Rattle.hs_tool.specs.Output.{AppendsPrefix}
use Rattle.hs_tool.specs.Reply.{Known}
use Rattle.hs_tool.specs.Run.{IsReport, Front, Ends}
use Rattle.hs_tool.specs.Laws.{StatusesHaveCauses}
use Rattle.hs_tool.proofs.Reasons.{status_below}
use Rattle.hs_tool.proofs.Writing.{appends_nothing}

module _ (known : Known) (before now : ℕ) (job : Option Job) (sink_before sink_now : ℕ) where
  -- nothing is written for want of memory
  pub ends_empty : (old : Option (List ℕ)) → Ends known before now job sink_before sink_now old old 6
  ends_empty old = record {
    whole = λ low. absurd (omega (arith, low));
    front = λ is. absurd (omega (arith, is));
    memory = λ is. inl (appends_nothing old);
    statuses = omega arith;
    refused = λ is. absurd (omega (arith, is));
    words = λ is. absurd (omega (arith, is));
    fetch_fault = λ is. absurd (omega (arith, is));
    put_fault = λ is. absurd (omega (arith, is));
  }

  module _ (report : List Line) (right : IsReport known before now job report) (text : List ℕ) (is_text : text ≡ text_of report) (old new : Option (List ℕ)) where
    -- the report is written
    pub ends_whole : StatusesHaveCauses → Appends old new text → (status : ℕ) → status ≡ status_of report → Ends known before now job sink_before sink_now old new status
    ends_whole causes written status is =
        let low = status_below report in
        let cause = causes known before now job report right in
        record {
          whole = λ below. record { report = report; right = right; written = subst (Appends old new) is_text written; status = sym is };
          front = λ five. absurd (omega (arith, low, is, five));
          memory = λ six. absurd (omega (arith, low, is, six));
          statuses = omega (arith, low, is);
          refused = λ two. cause.refusal (sym is ∙ two);
          words = λ three. cause.words (sym is ∙ three);
          fetch_fault = λ four. cause.fault (sym is ∙ four);
          put_fault = λ five. absurd (omega (arith, low, is, five));
        }

    front : AppendsPrefix old new text → Front (IsReport known before now job) old new
    front part = record { report = report; right = right; count = part.0; written = subst (λ (t : List ℕ). Appends old new (take part.0 t)) is_text part.1 }

    -- the sink fails
    pub ends_failed : AppendsPrefix old new text → Rose sink_before sink_now → Ends known before now job sink_before sink_now old new 5
    ends_failed part rose = record {
      whole = λ low. absurd (omega (arith, low));
      front = λ is. front part;
      memory = λ is. absurd (omega (arith, is));
      statuses = omega arith;
      refused = λ is. absurd (omega (arith, is));
      words = λ is. absurd (omega (arith, is));
      fetch_fault = λ is. absurd (omega (arith, is));
      put_fault = λ is. rose;
    }

    -- memory runs out while the report is written
    pub ends_early : AppendsPrefix old new text → Ends known before now job sink_before sink_now old new 6
    ends_early part = record {
      whole = λ low. absurd (omega (arith, low));
      front = λ is. absurd (omega (arith, is));
      memory = λ is. inr (front part);
      statuses = omega arith;
      refused = λ is. absurd (omega (arith, is));
      words = λ is. absurd (omega (arith, is));
      fetch_fault = λ is. absurd (omega (arith, is));
      put_fault = λ is. absurd (omega (arith, is));
    }
