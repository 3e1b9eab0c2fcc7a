-- In the listed table of an accepted one with unique names every group stands before the declaration that holds a field of it.
-- Assumes nothing.
use Rattle.std.proofs.Common.{Some}
use mathlib.Core.Path.{◌≡◌, refl, sym, ◌∙◌, ap, subst}
use mathlib.Core.Bool.{true, false}
use mathlib.Core.List.{List, [], ◌∷◌, ◌++◌}
use Prim.Native.Nat.{ℕ, zero, suc, ◌+◌, ◌-◌, ◌<◌, ◌≤◌}
use native.Mathlib.Omega.{arith}
use native.Mathlib.Nat.{add-zero, zero-add}
use native.Mathlib.Decide.{dec_lt}
use borrow.Author.Tests.{eqb-true, eq-eqb}
use lib.Dec.{eqb}
use lib.ListN.{length, get_or, take, length-append, get_or-append}
use lib.Seq.{get_or-append-add}
use Rattle.rules.specs.Kinds as kind
use Rattle.rules.specs.Kinds.{is, is_decl, is_named_decl}
use Rattle.rules.specs.Table.{at, blank}
use Rattle.rules.specs.Places.{nearest, holds_at, decl_named, member_count}
use Rattle.rules.specs.DeclIdentifiers.{decl_records, all_records, order, ordered}
use Rattle.rules.specs.Ordering.{Declared, Named, UniqueNames, HeldBy, by_group, Listing, Accepts}
use Rattle.rules.specs.declared.Record.{Record}
use Rattle.rules.specs.declared.Target.TheVariants.{Decl, DeclNamed}
use Rattle.group_sizes.specs.GroupsFirst.{FoundBefore, GroupsFirst}
use Rattle.table.proofs.Searches.{false-true, and-true, named-is-decl, first-only, nearest-is}
use Rattle.decl_order.proofs.Topological.{mem-at}
use Rattle.decl_order.proofs.Promise.{promise}
use Rattle.decl_order.proofs.Copies.{decl-length, count_fits}
use Rattle.decl_order.proofs.Room.{named-decl}
use Rattle.decl_order.proofs.Stretches.{members-free, decl-at, decl-members}

-- ---- the places of the listed records

module _ (rs : List Record) where
  -- where the i-th of the listed declarations starts
  abbrev offset : List ℕ → ℕ → ℕ
  offset l i = length (all_records rs (take i l))

  place_of : (l : List ℕ) (p : ℕ) → p < length (all_records rs l)
      → (i : ℕ) × (j : ℕ) × (i < length l) × (j < length (decl_records rs (get_or l i 0))) × (p ≡ offset l i + j)
  unfolding all_records
  place_of [] p h = absurd (omega arith)
  place_of (d ∷ l) p h = go (λ q k. place_of l q k) (dec_lt p (length (decl_records rs d)))
    where
      go : ((q : ℕ) → q < length (all_records rs l) → (i : ℕ) × (j : ℕ) × (i < length l) × (j < length (decl_records rs (get_or l i 0))) × (q ≡ offset l i + j)) → Dec (p < length (decl_records rs d))
          → (i : ℕ) × (j : ℕ) × (i < length (d ∷ l)) × (j < length (decl_records rs (get_or (d ∷ l) i 0))) × (p ≡ offset (d ∷ l) i + j)
      go ih (yes y) = (zero, p, omega arith, y, sym (zero-add p))
      go ih (no y) =
          let n : ℕ = length (decl_records rs d) in
          let r = ih (p - n) (omega (arith, length-append (decl_records rs d) (all_records rs l))) in
          let a = r.2 in
          let b = r.4 in
          (suc r.0, r.1, omega arith, r.3, omega (arith, length-append (decl_records rs d) (all_records rs (take r.0 l))))

  at_offset : (l : List ℕ) (i j : ℕ) → i < length l → j < length (decl_records rs (get_or l i 0)) → at (all_records rs l) (offset l i + j) ≡ at (decl_records rs (get_or l i 0)) j
  unfolding all_records at
  at_offset [] i j a b = absurd (omega arith)
  at_offset (d ∷ l) zero j a b = ap (λ (k : ℕ). get_or (decl_records rs d ++ all_records rs l) k blank) (zero-add j) ∙ get_or-append (decl_records rs d) (all_records rs l) blank j b
  at_offset (d ∷ l) (suc i) j a b =
      let e : length (decl_records rs d ++ all_records rs (take i l)) + j ≡ length (decl_records rs d) + (offset l i + j) = omega (arith, length-append (decl_records rs d) (all_records rs (take i l))) in
      ap (λ (k : ℕ). get_or (decl_records rs d ++ all_records rs l) k blank) e ∙ get_or-append-add (decl_records rs d) (all_records rs l) (offset l i + j) blank ∙ at_offset l i j (omega arith) b

  offset-next : (l : List ℕ) (i k : ℕ) → i < k → k ≤ length l → offset l i + length (decl_records rs (get_or l i 0)) ≤ offset l k
  unfolding all_records
  offset-next [] i k a b = absurd (omega arith)
  offset-next (d ∷ l) i zero a b = absurd (omega arith)
  offset-next (d ∷ l) zero (suc k) a b = omega (arith, length-append (decl_records rs d) (all_records rs (take k l)))
  offset-next (d ∷ l) (suc i) (suc k) a b =
      omega (arith, offset-next l i k (omega arith) (omega arith), length-append (decl_records rs d) (all_records rs (take k l)), length-append (decl_records rs d) (all_records rs (take i l)))

  offset-in : (l : List ℕ) (i : ℕ) → i < length l → offset l i + length (decl_records rs (get_or l i 0)) ≤ length (all_records rs l)
  unfolding all_records
  offset-in [] i a = absurd (omega arith)
  offset-in (d ∷ l) zero a = omega (arith, length-append (decl_records rs d) (all_records rs l))
  offset-in (d ∷ l) (suc i) a =
      omega (arith, offset-in l i (omega arith), length-append (decl_records rs d) (all_records rs l), length-append (decl_records rs d) (all_records rs (take i l)))

  module _ (a : Accepts rs) (u : UniqueNames rs) where
    l : List ℕ
    l = order rs

    os : List Record
    os = all_records rs l

    listing : Listing rs l
    unfolding l
    listing = (promise rs u).listing a

    declared-at : (i : ℕ) → i < length l → Declared rs (get_or l i 0)
    declared-at i h = listing.only (get_or l i 0) (mem-at l i h)

    long : (i : ℕ) → i < length l → length (decl_records rs (get_or l i 0)) ≡ 1 + member_count rs (get_or l i 0)
    long i h = decl-length rs (get_or l i 0) (declared-at i h).0

    listed_at : (i j : ℕ) → i < length l → j < length (decl_records rs (get_or l i 0)) → at os (offset l i + j) ≡ at rs (get_or l i 0 + j)
    unfolding os
    listed_at i j h k = at_offset l i j h k ∙ decl-at rs (get_or l i 0) (declared-at i h).0 j k

    own_at : (i : ℕ) → i < length l → at os (offset l i) ≡ at rs (get_or l i 0)
    own_at i h =
        ap (at os) (sym (add-zero (offset l i))) ∙ listed_at i 0 h (omega (arith, long i h)) ∙ ap (at rs) (add-zero (get_or l i 0))

    member-free : (i j : ℕ) → i < length l → 0 < j → j < length (decl_records rs (get_or l i 0)) → is_decl (at os (offset l i + j)).kind ≡ false
    unfolding os
    member-free i j h p k = rw (at_offset l i j h k) (decl-members rs (get_or l i 0) (declared-at i h).0 j p k)

    -- a declaration stands where one of the listed starts
    decl-place : (q : ℕ) → q < length os → is_decl (at os q).kind ≡ true → (i : ℕ) × (i < length l) × (q ≡ offset l i)
    unfolding os
    decl-place q h k = let w = place_of l q h in go w.0 w.1 w.2 w.3 w.4
      where
        go : (i j : ℕ) → i < length l → j < length (decl_records rs (get_or l i 0)) → q ≡ offset l i + j → (i : ℕ) × (i < length l) × (q ≡ offset l i)
        go i zero x y z = (i, x, z ∙ add-zero (offset l i))
        go i (suc j) x y z = false-true (sym (member-free i (suc j) x (omega arith) y) ∙ ap (λ (p : ℕ). is_decl (at os p).kind) (sym z) ∙ k)

    named-place : (x k : ℕ) → k < length l → Named rs x (get_or l k 0) → decl_named os x ≡ Some (offset l k)
    unfolding decl_named os
    named-place x k h n =
        first-only (holds_at os (DeclNamed x)) (length os) (offset l k) (omega (arith, offset-in l k h, long k h))
        (rw (own_at k h, n.0.1, eq-eqb (at rs (get_or l k 0)).name x n.1))
        (λ i b t.
        let y = and-true (is_named_decl (at os i).kind) (eqb (at os i).name x) t in
        let w = decl-place i b (named-is-decl (at os i).kind y.0) in
        let same : at rs (get_or l w.0 0) ≡ at os i = sym (own_at w.0 w.1) ∙ ap (at os) (sym w.2) in
        let name : (at rs (get_or l w.0 0)).name ≡ x = ap (λ (r : Record). r.name) same ∙ eqb-true (at os i).name x y.1 in
        w.2 ∙ ap (offset l) (listing.once w.0 k w.1 h (u (get_or l w.0 0) (get_or l k 0) (declared-at w.0 w.1) n.0 (name ∙ sym n.1))))

    nearest-decl : (p i j : ℕ) (x : i < length l) → 0 < j → j < length (decl_records rs (get_or l i 0)) → p ≡ offset l i + j → nearest (holds_at os Decl) p ≡ Some (offset l i)
    nearest-decl p i j x z y e =
        nearest-is (holds_at os Decl) p (offset l i) (omega arith)
        (rw (own_at i x) (named-decl rs (get_or l i 0) (declared-at i x)))
        (λ q s t.
        let n : q ≡ offset l i + (q - offset l i) = omega arith in
        ap (λ (m : ℕ). is_decl (at os m).kind) n ∙ member-free i (q - offset l i) x (omega arith) (omega arith))

    -- the group field at the j-th record of the i-th declaration
    module _ (p i j : ℕ) (x : i < length l) (y : j < length (decl_records rs (get_or l i 0))) (e : p ≡ offset l i + j) (k : is kind.group_field (at os p) ≡ true) where
      d : ℕ
      d = get_or l i 0

      field_is : at os p ≡ at rs (d + j)
      unfolding d
      field_is = ap (at os) e ∙ listed_at i j x y

      is-group : is kind.group_field (at rs (d + j)) ≡ true
      is-group = ap (λ (r : Record). is kind.group_field r) (sym field_is) ∙ k

      declared : Declared rs d
      unfolding d
      declared = declared-at i x

      later : 0 < j
      unfolding d
      later = go j refl
        where
          go : (m : ℕ) → j ≡ m → 0 < j
          go zero z =
              let q : at rs (get_or l i 0 + j) ≡ at rs (get_or l i 0) = ap (at rs) (ap (λ (m : ℕ). get_or l i 0 + m) z ∙ add-zero (get_or l i 0)) in
              let r : (at rs (get_or l i 0)).kind ≡ kind.group_field = ap (λ (r : Record). r.kind) (sym q) ∙ eqb-true (at rs (d + j)).kind kind.group_field is-group in
              false-true (sym (ap is_decl r) ∙ named-decl rs (get_or l i 0) declared)
          go (suc m) z = omega arith

      held : HeldBy rs d (d + j)
      unfolding d
      held =
          let a = later in
          let c = long i x in
          (omega arith, omega (arith, count_fits rs (get_or l i 0) (declared-at i x).0), λ q s t. members-free rs (get_or l i 0) (declared-at i x).0 q s (omega arith))

      earlier : FoundBefore (decl_named os (at os p).second) (nearest (holds_at os Decl) p)
      unfolding d
      earlier =
          let g = ((promise rs u).sound a).0.groups d (d + j) declared held is-group in
          let f = listing.after i g.0 x (by_group (d + j) declared held is-group g.1) in
          let b = f.1 in
          let n : Named rs (at os p).second (get_or l f.0 0)
          = subst (λ (m : ℕ). Named rs (at os p).second m) (sym f.2) (subst (λ (r : Record). Named rs r.second g.0) (sym field_is) g.1) in
          rw (named-place (at os p).second f.0 (omega arith) n, nearest-decl p i j x later y e) (omega (arith, offset-next l f.0 i f.1 (omega arith), long f.0 (omega arith)))

    pub groups-first : GroupsFirst (ordered rs)
    unfolding ordered l os
    groups-first p h k = let w = place_of l p h in earlier p w.0 w.1 w.2 w.3 w.4 k
