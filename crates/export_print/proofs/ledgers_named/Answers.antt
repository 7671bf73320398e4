-- `export_print::ledgers_named` meets its contract: by whether a record is held, and by the test of the number. Assumes
-- nothing.
use mathlib.Core.Path.{◌≡◌, refl, ap}
use mathlib.Core.Bool.{Bool, true, false}
use lib.Dec.{eqb}
use borrow.Author.Tests.{eqb-true, eq-eqb, ne_eqb}
use Rattle.print_ledger.specs.declared.Ledger.{Ledger}
use Rattle.export.specs.Numbers.{mark}
use Rattle.export_print.specs.Numbers.{ledger_numbers, ledger_named}
use Rattle.export_print.proofs.ledgers_named.Goals as goal

-- a mark read back
read_back : (h : Bool) → eqb (mark h) 1 ≡ h
read_back true = refl
read_back false = refl

back : (l : Ledger) → ledger_named (ledger_numbers l) ≡ l
unfolding ledger_named
back l = ap (λ (h : Bool). record { held = h }) (read_back l.held)

pub returns : goal.returns
unfolding ledger_named
returns c =
    record {
      back = back;
      holding = λ t. (eqb-true t.held 1, eq-eqb t.held 1);
      idle = λ t. ne_eqb t.held 1;
    }
