-- Laws of the kinds around a place. Assumes nothing.
use Prim.Native.Nat.{ℕ, zero, suc, ◌+◌, ◌-◌}
use mathlib.Core.Path.{◌≡◌, refl, ap, ◌∙◌}
use mathlib.Core.List.{List}
use mathlib.Core.Bool.{Bool, true, false}
use native.Mathlib.Omega.{arith}
use native.Mathlib.Numerals.{add-one}
use borrow.Author.Tests.{le-ltb}
use Rattle.std.specs.Prelude.{if◌then◌else◌}
use Rattle.rules.specs.Kinds.{is_decl}
use Rattle.rules.specs.Table.{at}
use Rattle.rules.specs.Places.{nearest, holds_at}
use Rattle.rules.specs.Layouts.{found_kind, kind_before}
use Rattle.rules.specs.declared.Record.{Record}
use Rattle.rules.specs.declared.Target.TheVariants.{Decl}
use Rattle.layout.specs.declared.Around.{Around}
use Rattle.layout.specs.Surroundings.{kinds_around, around, after}

pub around-start : (rs : List Record) {a : Around} → (a.decl ≡ 0) × ((a.before2 ≡ 0) × (a.before1 ≡ 0)) → a ≡ around rs 0
unfolding around nearest found_kind kind_before
around-start rs {a} (d, (o, q)) = ap (λ (n : ℕ). kinds_around n a.before2 a.before1) d ∙ ap (λ (n : ℕ). kinds_around 0 n a.before1) o ∙ ap (kinds_around 0 0) q

module _ (rs : List Record) (p : ℕ) where
  decl-next : found_kind rs (nearest (holds_at rs Decl) (suc p)) ≡ (if is_decl (at rs p).kind then (at rs p).kind else found_kind rs (nearest (holds_at rs Decl) p))
  unfolding nearest found_kind
  decl-next = go (is_decl (at rs p).kind) refl
    where
      go : (b : Bool) → is_decl (at rs p).kind ≡ b → found_kind rs (nearest (holds_at rs Decl) (suc p)) ≡ (if is_decl (at rs p).kind then (at rs p).kind else found_kind rs (nearest (holds_at rs Decl) p))
      go true e = rw (nearest, e)
      go false e = rw (nearest, e)

  one-next : kind_before rs 1 (p + 1) ≡ (at rs p).kind
  unfolding kind_before
  one-next = let e : p + 1 - 1 ≡ p = omega arith in rw (le-ltb (p + 1) 1 (omega arith), e)

  two-next : kind_before rs 2 (p + 1) ≡ kind_before rs 1 p
  unfolding kind_before
  two-next = go p
    where
      go : (q : ℕ) → kind_before rs 2 (q + 1) ≡ kind_before rs 1 q
      go zero = refl
      go (suc q) =
          let e : suc q + 1 - 2 ≡ suc q - 1 = omega arith in
          rw (le-ltb (suc q + 1) 2 (omega arith), le-ltb (suc q) 1 (omega arith), e)

  pub around-next : after (around rs p) (at rs p).kind ≡ around rs (p + 1)
  unfolding around after
  around-next = rw (one-next, two-next, add-one p, decl-next)
