-- Pass 1 without faults means unique names. Assumes nothing.
use Rattle.std.proofs.lemmas.Grind.{common_steps}
use mathlib.Core.Path.{◌≡◌, ap}
use mathlib.Core.List.{List, []}
use Prim.Native.Nat.{ℕ, zero, suc, ◌<◌}
use native.Mathlib.Omega.{arith}
use lib.ListN.{length, length-append}
use Rattle.std.specs.Prelude.{ℕ}
use Rattle.rules.specs.Table.{at}
use Rattle.rules.specs.Places.{each, holds_at}
use Rattle.rules.specs.Scopes.{redeclared, pass1_at, pass1}
use Rattle.rules.specs.Ordering.{Declared, UniqueNames}
use Rattle.rules.specs.declared.Record.{Record}
use Rattle.rules.specs.declared.Fault.{Fault}
use Rattle.rules.specs.declared.Target.TheVariants.{DeclNamed}
use Rattle.table.proofs.Searches.{nearest-none}

each_none : (f : ℕ → List Fault) (n p : ℕ) → each f n ≡ [] → p < n → f p ≡ []
unfolding each
each_none f zero p e l = absurd (omega arith)
each_none f (suc n) p e l = grind (arith, common_steps, each_none f n p, length-append (each f n) (f n), ap length e)

-- pass 1 without faults: no declaration before p has its name
earlier-none : (rs : List Record) → pass1 rs ≡ [] → (p q : ℕ) → Declared rs p → Declared rs q → q < p → (at rs q).name ≡ (at rs p).name → ⊥
unfolding pass1 pass1_at redeclared
earlier-none rs clean p q dp dq l e =
    grind (arith, common_steps, each_none (pass1_at rs) (length rs) p clean dp.0, nearest-none (holds_at rs (DeclNamed (at rs p).name)) p q)

pub unique-names : (rs : List Record) → pass1 rs ≡ [] → UniqueNames rs
unique-names rs clean d e dd de n = grind (arith, common_steps, earlier-none rs clean d e dd de, earlier-none rs clean e d de dd)
