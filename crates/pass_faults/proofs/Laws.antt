-- What the closures find is listed, place by place. Assumes nothing.
use Rattle.std.proofs.Common.{ℕ, ◌≡◌, ◌<◌, ◌++◌, ◌∙◌, arith, refl, List, [], Bool, true, false, if◌then◌else◌, Option, None, option_to_list, append-nil}
use Rattle.rules.specs.Places.{first}
use Rattle.rules.specs.Table.{at}
use Rattle.rules.specs.declared.Fault.{Fault}
use Rattle.rules.specs.declared.Record.{Record}
use Rattle.table.proofs.Searches.{first-none}
use Rattle.pass_faults.specs.Listed.{is_among, Lists}

-- a kind whose bit is not set fails a test, if each of the kinds that pass it has its bit set
pub not-among : (kinds : ℕ) (b : ℕ → Bool) → first (λ k. if is_among kinds k then false else b k) 0 64 ≡ None → ((k : ℕ) → b k ≡ true → k < 64)
    → (k : ℕ) → is_among kinds k ≡ false → b k ≡ false
not-among kinds b bits low k h = go (b k) refl
  where
    go : (x : Bool) → b k ≡ x → x ≡ false
    go true e = rw (h, e) at (first-none _ 0 64 k bits (omega arith) (low k e))
    go false e = refl

-- one fault, and no second one
pub only_first : (r : Option Fault × Option Fault) (l : List Fault) → option_to_list r.0 ≡ l → r.1 ≡ None → option_to_list r.0 ++ option_to_list r.1 ≡ l
only_first r l e h = rw h (append-nil _ ∙ e)

-- what is found at each place is listed, and nothing is where the kind fails the test
pub lists : {may_find : ℕ → Option Fault × Option Fault → Type 0} (rs : List Record) (kinds : ℕ) (b : ℕ → Bool) (listed : ℕ → List Fault)
    → first (λ k. if is_among kinds k then false else b k) 0 64 ≡ None → ((k : ℕ) → b k ≡ true → k < 64)
    → ((p : ℕ) (r : Option Fault × Option Fault) → may_find p r → option_to_list r.0 ++ option_to_list r.1 ≡ listed p)
    → ((p : ℕ) → b (at rs p).kind ≡ false → listed p ≡ []) → Lists may_find rs kinds listed
lists rs kinds b listed bits low found passed = record { found = found; passed = λ p e. passed p (not-among kinds b bits low _ e) }
