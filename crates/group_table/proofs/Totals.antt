-- The total of the sizes: it rises, and is the length of the inlined table, as far as 1,601. Assumes nothing.
use Prim.Native.Nat.{ℕ, zero, suc, ◌<◌, ◌≤◌, min}
use mathlib.Core.Path.{◌≡◌, refl}
use mathlib.Core.List.{List, []}
use mathlib.Core.Bool.{true, not}
use native.Mathlib.Omega.{arith}
use native.Mathlib.Decide.{dec_lt}
use lib.Dec.{eqb}
use lib.ListN.{get_or, length, length-append}
use Rattle.std.proofs.lemmas.Grind.{common_steps}
use Rattle.rules.specs.Table.{at}
use Rattle.rules.specs.Places.{each}
use Rattle.rules.specs.Kinds.{is_decl}
use Rattle.rules.specs.InlineGroups.{is_kept, expand, inlined_at, inlined}
use Rattle.rules.specs.declared.Record.{Record}
use Rattle.rules.specs.declared.Inlined.{Inlined}
use Rattle.table.proofs.Searches.{and-true}
use Rattle.group_sizes.specs.Sizes.{total_size, Measured}
use Rattle.group_table.proofs.Expands.{expand-size}

pub total-rises : (sizes : List ℕ) (rs : List Record) (d n : ℕ) → d ≤ n → total_size sizes rs d ≤ total_size sizes rs n
unfolding total_size
total-rises sizes rs d zero h = let e : d ≡ 0 = omega arith in rw e (omega arith)
total-rises sizes rs d (suc n) h = go (λ l. total-rises sizes rs d n l) (dec_lt n d)
  where
    go : (d ≤ n → total_size sizes rs d ≤ total_size sizes rs n) → Dec (n < d) → total_size sizes rs d ≤ total_size sizes rs (suc n)
    go r (yes z) = let e : d ≡ suc n = omega arith in rw e (omega arith)
    go r (no z) = let y = r (omega arith) in omega arith

pub kept-decl : (k : ℕ) → is_kept k ≡ true → is_decl k ≡ true
kept-decl k i = (and-true (is_decl k) (not (eqb k 6)) i).0

-- the total is the length of the inlined table, as far as 1,601
module _ {rs : List Record} {targets sizes : List ℕ} (y : Measured rs targets sizes) where
  each-size : (n : ℕ) → n ≤ length rs → min 1601 (length (each (inlined_at rs) n)) ≡ min 1601 (total_size sizes rs n)
  unfolding each total_size inlined_at
  each-size zero h = refl
  each-size (suc d) h = more (each-size d (omega arith)) (λ i. expand-size y (length rs) [] d (omega arith) (omega arith) (kept-decl (at rs d).kind i))
    where
      more : min 1601 (length (each (inlined_at rs) d)) ≡ min 1601 (total_size sizes rs d) → (is_kept (at rs d).kind ≡ true → min 1601 (length (expand rs (length rs) [] d)) ≡ get_or sizes d 0)
          → min 1601 (length (each (inlined_at rs) (suc d))) ≡ min 1601 (total_size sizes rs (suc d))
      more r k = grind (arith, common_steps, length-append {A = Inlined})

  pub inlined-size : min 1601 (length (inlined rs)) ≡ min 1601 (total_size sizes rs (length rs))
  unfolding inlined
  inlined-size = each-size (length rs) (omega arith)
