-- How many members a declaration has, and what stands behind the last record. Assumes nothing.
use Rattle.std.proofs.Common.{None, Option, Some, unwrap_or}
use Prim.Native.Nat.{ℕ, ◌+◌, ◌-◌, ◌<◌, ◌≤◌}
use mathlib.Core.Path.{◌≡◌, refl, sym, ap}
use mathlib.Core.List.{List}
use mathlib.Core.Bool.{false}
use native.Mathlib.Omega.{arith}
use lib.ListN.{length}
use Rattle.rules.specs.Places.{first, holds_at, first_from, found_inside, up_to, member_count}
use Rattle.rules.specs.declared.Record.{Record}
use Rattle.rules.specs.declared.Target.{Target}
use Rattle.rules.specs.declared.Target.TheVariants.{Decl}
use Rattle.table.proofs.Laws.{first-in}

-- the members of a declaration end at the next one, or at the end of the table
module _ (rs : List Record) (d : ℕ) where
  ends : (x : Option ℕ) → ((e : ℕ) → x ≡ Some e → (d + 1 ≤ e) × (e < length rs)) → d < length rs
      → (d + 1 ≤ unwrap_or x (length rs)) × (unwrap_or x (length rs) ≤ length rs) × (unwrap_or x (length rs) - (d + 1) ≡ up_to (length rs) (d + 1) x)
  ends (Some e) h g = let z = h e refl in (z.0, omega arith, refl)
  ends None h g = (omega arith, omega arith, refl)

  pub members-end : d < length rs → (e : ℕ) → e ≡ unwrap_or (first_from rs Decl (d + 1)) (length rs) → (d + 1 ≤ e) × (e ≤ length rs) × (e - (d + 1) ≡ member_count rs d)
  unfolding member_count
  members-end g e h = rw h (ends (first_from rs Decl (d + 1)) (first-in (holds_at rs Decl) (length rs) (d + 1)) g)

  pub members-in : d < length rs → d + 1 + member_count rs d ≤ length rs
  members-in g = let z = members-end g (unwrap_or (first_from rs Decl (d + 1)) (length rs)) refl in omega arith

  -- where no declaration follows, whatever d is
  pub count-end : first (holds_at rs Decl) (d + 1) (length rs - (d + 1)) ≡ None → length rs - (d + 1) ≡ member_count rs d
  unfolding member_count
  count-end h = rw h

  -- with the declaration's own record
  pub count-to : (e : ℕ) → first_from rs Decl (d + 1) ≡ Some e → (d < e) × (e - d ≡ 1 + member_count rs d)
  unfolding member_count
  count-to e h = let z = first-in (holds_at rs Decl) (length rs) (d + 1) e h in let l = z.0 in (omega arith, rw h (omega arith))

  pub count-rest : d < length rs → first_from rs Decl (d + 1) ≡ None → length rs - d ≡ 1 + member_count rs d
  unfolding member_count
  count-rest l h = rw h (omega arith)

-- behind the last record there is nothing
pub none-past : (rs : List Record) (x : Target) (d : ℕ) → length rs ≤ d → false ≡ found_inside rs (first_from rs x (d + 1))
unfolding first found_inside
none-past rs x d h =
    let z : length rs - (d + 1) ≡ 0 = omega arith in
    sym (ap (λ (k : ℕ). found_inside rs (first (holds_at rs x) (d + 1) k)) z)
