-- The starts of pass 5's searches, a place at a time. Assumes nothing.
use Rattle.std.proofs.Common.{ℕ, ◌≡◌, ◌+◌, ◌%◌, ◌<◌, ◌≤◌, ◌∙◌, arith, refl, ap, List, [], true, false, length, get_or, set, replicate, mod-lt, Some}
use Rattle.std.proofs.lemmas.Grind.{common_steps}
use native.Mathlib.Decide.{ℕ_discrete}
use Rattle.rules.specs.Kinds.{is_decl}
use Rattle.rules.specs.Table.{at}
use Rattle.rules.specs.Places.{nearest, holds, holds_at, first_from, first_after, first_within}
use Rattle.rules.specs.SizeFields.{matching}
use Rattle.rules.specs.declared.Record.{Record}
use Rattle.rules.specs.declared.Target.TheVariants.{Decl}
use Rattle.table.proofs.Laws.{up-miss}
use Rattle.table.proofs.Searches.{nearest-is}
use Rattle.size_fields.specs.SizeStarts.{target_at, SizeStarts, name_of, start_for, KeptPlaces}

none-known : (n p : ℕ) → ◌≡◌ {A = ℕ} (get_or (replicate n 65535) p 65535) 65535
none-known n p = grind (arith, common_steps)

-- no start is known at first
pub starts-unknown : (rs : List Record) (n : ℕ) → SizeStarts rs (replicate n 65535)
starts-unknown rs n = record { skips = λ p h. grind (arith, none-known n p) }

-- no places are kept
pub starts-empty : (rs : List Record) → SizeStarts rs []
starts-empty rs = record { skips = λ p h. absurd (h refl) }

-- one place known
pub starts-one : (rs : List Record) (places : List ℕ) (q s : ℕ) → q < length places → SizeStarts rs places
    → first_within rs (target_at rs q) q ≡ first_from rs (target_at rs q) s → SizeStarts rs (set places q s)
starts-one rs places q s l w e = record { skips = λ p h. grind (arith, common_steps, w.skips p) }

-- the only name by which a size can mean a record
holds-miss : (j x : ℕ) (r : Record) → is_decl r.kind ≡ false → (x ≡ name_of r → ⊥) → holds (matching j x) r ≡ false
holds-miss j x r d o = grind (arith, common_steps)

-- no place is kept at first
pub kept_none : (rs : List Record) → length rs ≤ 1600 → KeptPlaces rs (replicate 4093 65535) (length rs) (length rs)
kept_none rs l =
    record {
      skips = λ j x.
          let z : start_for (replicate 4093 65535) (length rs) x ≡ length rs = grind (arith, none-known 4093 (x % 4093)) in
          rw z;
      entries = λ h. grind (arith, none-known 4093 h);
      members = λ i a b. absurd (omega arith);
      ends = omega arith;
    }

module _ (rs : List Record) (last : List ℕ) where
  -- at q, behind the declaration at d
  pub kept-within : (e d q : ℕ) → KeptPlaces rs last e (d + 1) → is_decl (at rs d).kind ≡ true → d < q → q < e
      → first_within rs (target_at rs q) q ≡ first_from rs (target_at rs q) (start_for last e (at rs q).second)
  unfolding first_within first_after
  kept-within e d q w h a b =
      let n : nearest (holds_at rs Decl) q ≡ Some d = nearest-is (holds_at rs Decl) q d a h (λ i c f. w.members i (omega arith) (omega arith)) in
      rw n (w.skips (at rs q).kind (at rs q).second)

  -- one place more, which is no declaration
  pub kept-other : (e p : ℕ) → p < length rs → KeptPlaces rs last e (p + 1) → 4093 ≤ length last → is_decl (at rs p).kind ≡ false
      → KeptPlaces rs (set last (name_of (at rs p) % 4093) p) e p
  kept-other e p l w f d =
      record {
        skips = λ j x. from j x (ℕ_discrete (x % 4093) (name_of (at rs p) % 4093));
        entries = λ h. grind (arith, common_steps, w.entries h, mod-lt);
        members = λ i a b. grind (arith, w.members i);
        ends = (omega (arith, w.ends), w.ends.1);
      }
    where
      kept : List ℕ
      kept = set last (name_of (at rs p) % 4093) p

      from : (j x : ℕ) → Dec (x % 4093 ≡ name_of (at rs p) % 4093) → first_from rs (matching j x) p ≡ first_from rs (matching j x) (start_for kept e x)
      from j x (yes h) =
          let z : start_for kept e x ≡ p = grind (arith, common_steps, mod-lt) in
          rw z
      from j x (no h) =
          let z : start_for kept e x ≡ start_for last e x = grind (arith, common_steps) in
          let m : holds_at rs (matching j x) p ≡ false = holds-miss j x (at rs p) d (λ q. h (ap (λ (i : ℕ). i % 4093) q)) in
          up-miss (holds_at rs (matching j x)) p (length rs) p refl l m ∙ rw z (w.skips j x)
