use Rattle.std.proofs.Common.{rules}
use Rattle.hs_elimination.specs.Linear.{place}
use Rattle.hs_substitute.proofs.Parts.{put-And, put-Or, wide-And, wide-Or, wide-Eq, wide-Lt, wide-Le}
use Rattle.hs_substitute.proofs.replace.+replacing.Goals as goal

pub replace-returns-in_err-substitute_lin-in-Eq-clause-wide : goal.replace-returns-in_err-substitute_lin-in-Eq-clause-wide
replace-returns-in_err-substitute_lin-in-Eq-clause-wide t c = λ h. wide-Eq (place c.args.x) c.args.u.now c.args.f.now c.in-Eq.a c.in-Eq.b (c.substitute_lin-in-Eq.ensures.wide (search rules)) c.in-Eq.is

pub replace-returns-in_err-substitute_lin-in-Lt-clause-wide : goal.replace-returns-in_err-substitute_lin-in-Lt-clause-wide
replace-returns-in_err-substitute_lin-in-Lt-clause-wide t c = λ h. wide-Lt (place c.args.x) c.args.u.now c.args.f.now c.in-Lt.a c.in-Lt.b (c.substitute_lin-in-Lt-2.ensures.wide (search rules)) c.in-Lt.is

pub replace-returns-in_err-substitute_lin-in-Le-clause-wide : goal.replace-returns-in_err-substitute_lin-in-Le-clause-wide
replace-returns-in_err-substitute_lin-in-Le-clause-wide t c = λ h. wide-Le (place c.args.x) c.args.u.now c.args.f.now c.in-Le.a c.in-Le.b (c.substitute_lin-in-Le-2.ensures.wide (search rules)) c.in-Le.is

pub replace-returns-in_err-replace_all-in-And-clause-wide : goal.replace-returns-in_err-replace_all-in-And-clause-wide
replace-returns-in_err-replace_all-in-And-clause-wide t c = λ h. wide-And (place c.args.x) c.args.u.now c.args.f.now c.in-And.ps c.in-And.is (rw c.as_slice.ensures at (c.in_err-replace_all-in-And.ensures.wide (search rules)))

pub replace-returns-in_err-replace_all-in-Or-clause-wide : goal.replace-returns-in_err-replace_all-in-Or-clause-wide
replace-returns-in_err-replace_all-in-Or-clause-wide t c = λ h. wide-Or (place c.args.x) c.args.u.now c.args.f.now c.in-Or.ps c.in-Or.is (rw c.as_slice-in-Or.ensures at (c.in_err-replace_all-in-Or.ensures.wide (search rules)))

pub replace-returns-in_ok-replace_all-in-And-clause-exact : goal.replace-returns-in_ok-replace_all-in-And-clause-exact
replace-returns-in_ok-replace_all-in-And-clause-exact t c = put-And (place c.args.x) c.args.u.now c.args.f.now c.in-And.ps c.in_ok-replace_all-in-And.field-0 c.in-And.is (rw c.as_slice.ensures at c.in_ok-replace_all-in-And.ensures.exact)

pub replace-returns-in_ok-replace_all-in-Or-clause-exact : goal.replace-returns-in_ok-replace_all-in-Or-clause-exact
replace-returns-in_ok-replace_all-in-Or-clause-exact t c = put-Or (place c.args.x) c.args.u.now c.args.f.now c.in-Or.ps c.in_ok-replace_all-in-Or.field-0 c.in-Or.is (rw c.as_slice-in-Or.ensures at c.in_ok-replace_all-in-Or.ensures.exact)
