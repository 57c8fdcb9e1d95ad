use Rattle.std.proofs.Common.{ℕ, List, IfOk, arith, subst}
use Rattle.std.proofs.lemmas.Result.{IfOk-weaker}
use Rattle.hs_io.specs.Faults.{Rose}
use Rattle.hs_tool.specs.Reply.{IsFileReply, IsSourceReply}
use Rattle.hs_tool.specs.Proofs.{IsCheckReply}
use Rattle.hs_tool.specs.Run.{source_limit, proof_limit}
use Rattle.hs_tool.proofs.Replies.{second_file}
use Rattle.hs_tool.proofs.tool.check_files.Goals as goal

pub returns-in-Bytes : goal.returns-in-Bytes
returns-in-Bytes g c =
    let later = c.fetch.ensures.later in
    let got = rw c.in-Bytes.is at c.in_ok-source.ensures.fetched in
    let told = subst (λ (bytes : List ℕ). IfOk c.check_source.result (IsFileReply (g.F.Files.texts c.fetch.new.files) (Rose (g.F.Files.faults c.fetch.new.files) (g.F.Files.faults c.check_source.new.files))
    proof_limit c.args.proof (λ text. IsSourceReply (IsCheckReply text c.args.options) bytes))) c.deref.ensures.value c.check_source.ensures.reply in
    IfOk-weaker c.check_source.result _ _
    (λ reply right. second_file c.fetch.ensures.same (λ rose. omega (arith, later, rose)) source_limit c.args.file proof_limit c.args.proof
    (λ source text. IsSourceReply (IsCheckReply text c.args.options) source) c.in-Bytes.source.items got.0 got.1 reply right) told
