use Rattle.std.proofs.Common.{◌≡◌, take}
use Rattle.hs_tree.proofs.method.+copy_test.Given as goal

abbrev pub invariant-copy_test_cases-loop-case : goal.invariant-copy_test_cases-loop-case
invariant-copy_test_cases-loop-case l = l.all ≡ take l.case-index l.cases

abbrev pub invariant-copy_test_cases-loop-test : goal.invariant-copy_test_cases-loop-test
invariant-copy_test_cases-loop-test l = l.tests ≡ take l.test-index l.members
