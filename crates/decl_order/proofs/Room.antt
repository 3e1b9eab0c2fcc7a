-- The records of declarations that are listed once are no more than the table has. Assumes nothing.
use Rattle.std.proofs.Common.{unwrap_or}
use Rattle.std.proofs.lemmas.Grind.{common_steps}
use Rattle.std.proofs.lemmas.List.{set_past}
use Rattle.std.proofs.lemmas.List.FromFn.{get_or-map-range_with_len}
use Rattle.std.proofs.lemmas.List.Sums.{sum_by_push, sum_by-set, sum-map}
use Rattle.std.specs.List.{sum, sum_by, range_with_len}
use mathlib.Core.Path.{◌≡◌, refl, sym, ◌∙◌}
use mathlib.Core.Bool.{true}
use mathlib.Core.List.Memᴰ
use mathlib.Core.List.{List, [], ◌∷◌, map, Memᴰ}
use Prim.Native.Nat.{ℕ, zero, suc, ◌+◌, ◌≤◌, zero-le}
use native.Mathlib.Omega.{arith}
use lib.ListN.{length, get_or, set, length-append}
use lib.Seq.{get_or-set_other}
use Rattle.std.specs.Prelude.{if◌then◌else◌, ℕ}
use Rattle.rules.specs.Kinds.{is_decl}
use Rattle.rules.specs.Table.{at}
use Rattle.rules.specs.Places.{first, holds_at, first_from, member_count}
use Rattle.rules.specs.DeclIdentifiers.{all_records, ordered}
use Rattle.rules.specs.Ordering.{Declared, Accepts}
use Rattle.rules.specs.declared.Record.{Record}
use Rattle.rules.specs.declared.Target.TheVariants.{Decl}
use Rattle.rules.specs.declared.Reference.{Reference}
use Rattle.table.proofs.Searches.{named-is-decl}
use Rattle.search.proofs.members.Laws.{members-end}
use Rattle.decl_order.proofs.Topological.{ListedInOrder, none, more}
use Rattle.decl_order.proofs.Promise.{listed-declared, listed-in-order}
use Rattle.decl_order.proofs.Copies.{decl-length, records-snoc}

-- ---- numbers at distinct places sum to no more than all

abbrev sum_at : List ℕ → List ℕ → ℕ
sum_at ws l = sum_by (λ d. get_or ws d 0) l

sum_at-set : (ws l : List ℕ) (d : ℕ) → (Memᴰ d l → ⊥) → sum_at (set ws d 0) l ≡ sum_at ws l
sum_at-set ws [] d n = refl
sum_at-set ws (x ∷ l) d n =
    let e = get_or-set_other ws d x 0 0 (λ e. n (Memᴰ.head (sym e))) in
    grind (arith, common_steps, e, sum_at-set ws l d (λ m. n (Memᴰ.tail m)))

sum-set : (ws : List ℕ) (d : ℕ) → sum (set ws d 0) + get_or ws d 0 ≡ sum ws
sum-set ws d = grind (arith, common_steps, sum_by-set (λ (x : ℕ). x) ws d 0 0, set_past ws d 0)

sum_at-below : {f : ℕ → List Reference} {l : List ℕ} → ListedInOrder f l → (ws : List ℕ) → sum_at ws l ≤ sum ws
sum_at-below none ws = zero-le
sum_at-below (more {l = l} {d = d} o a q u) ws =
    omega (arith, sum_at-below o (set ws d 0), sum_by_push (λ (x : ℕ). get_or ws x 0) l d, sum_at-set ws l d u, sum-set ws d)

-- ---- the records of each declaration, by place

module _ (rs : List Record) where
  abbrev size : ℕ → ℕ
  size d = if is_decl (at rs d).kind then 1 + member_count rs d else 0

  abbrev sizes : List ℕ
  sizes = map size (range_with_len 0 (length rs))

  sizes-sum : (p j : ℕ) → p + j ≡ length rs → sum_by size (range_with_len p j) + unwrap_or (first (holds_at rs Decl) p j) (length rs) ≡ length rs
  unfolding first
  sizes-sum p zero l = grind (arith, common_steps)
  sizes-sum p (suc j) l = grind (arith, common_steps, sizes-sum (p + 1) j (omega arith), members-end rs p (omega arith) (unwrap_or (first_from rs Decl (p + 1)) (length rs)) refl)

  pub named-decl : (d : ℕ) → Declared rs d → is_decl (at rs d).kind ≡ true
  named-decl d h = named-is-decl (at rs d).kind h.1

  decls-length : {f : ℕ → List Reference} {l : List ℕ} → ListedInOrder f l → ((d : ℕ) → Memᴰ d l → Declared rs d) → length (all_records rs l) ≡ sum_at sizes l
  unfolding all_records
  decls-length none h = refl
  decls-length (more {l = l} {d = d} o a q u) h =
      let dd = h d (Memᴰ.append_right l (Memᴰ.head refl)) in
      let s : get_or sizes d 0 ≡ 1 + member_count rs d = get_or-map-range_with_len size 0 (length rs) d d 0 dd.0 (omega arith) ∙ rw (named-decl d dd) in
      rw (records-snoc rs l d, length-append) (omega (arith, decls-length o (λ e m. h e (Memᴰ.append_left (d ∷ []) m)), decl-length rs d dd.0, s, sum_by_push (λ (x : ℕ). get_or sizes x 0) l d))

  -- the listed table is no longer than the table
  pub ordered-short : Accepts rs → length (ordered rs) ≤ length rs
  unfolding ordered
  ordered-short a =
      let o = listed-in-order rs a in
      omega (arith, decls-length o (listed-declared rs a), sum_at-below o sizes, sum-map size (range_with_len 0 (length rs)), sizes-sum 0 (length rs) (omega arith))
