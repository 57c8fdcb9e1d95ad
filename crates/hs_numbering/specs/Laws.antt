-- What the layers above use of faults.
use Rattle.std.specs.Prelude.{◌≡◌, ◌↔◌, false, List, [], Some, None}
use Rattle.std.specs.List.{All, Contains}
use Rattle.hs_numbering.specs.declared.fault.Fault.{Fault}
use Rattle.hs_numbering.specs.Least.{least, is_before}

-- the fault that is answered is in the list, and none of the list is before it
pub record LeastIsFirst : Type 0 where
  pub found : (fs : List Fault) (f : Fault) → least fs ≡ Some f → Contains fs f × All (λ g. is_before g f ≡ false) fs
  pub none : (fs : List Fault) → least fs ≡ None ↔ fs ≡ []
