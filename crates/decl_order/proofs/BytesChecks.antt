-- What the visits leave, and the copy of bytes after them: the pass on bytes whole. Assumes nothing.
use Rattle.std.proofs.lemmas.Grind.{common_steps}
use mathlib.Core.Path.{◌≡◌, refl, ◌∙◌, subst}
use mathlib.Core.List.{List, [], ◌++◌, Memᴰ}
use Prim.Native.Nat.{ℕ, ◌*◌, ◌<◌, ◌≤◌}
use native.Mathlib.Omega.{arith}
use lib.ListN.{length, take, drop}
use Rattle.rules.specs.Bytes.{written}
use Rattle.rules.specs.Table.{decode}
use Rattle.rules.specs.DeclIdentifiers.{visited, order, ordered, all_records}
use Rattle.rules.specs.Ordering.{Accepts}
use Rattle.rules.specs.declared.Record.{Record}
use Rattle.decl_visits.specs.declared.VisitProgress.{VisitProgress}
use Rattle.std.specs.Prelude.{Ok, Err}
use Rattle.decl_visits.specs.Contract.{started, StateHeld}
use Rattle.decl_visits.proofs.Loop.{places-started, order-read}
use Rattle.decl_order.specs.Bytes.{all_bytes, BytesPlaced, BytesChecked}
use Rattle.decl_order.proofs.Promise.{listed-declared}
use Rattle.decl_order.proofs.ListedBytes.{all-decode}
use Rattle.decl_order.proofs.BytesCopies.{all-length}
use Rattle.decl_order.proofs.Checks.{ret-faulty, listed-short, call-copy, ret-copied}

-- the bytes of an accepted table's listed declarations
module _ (t : List ℕ) (a : Accepts (decode t)) where
  listed_in : (d : ℕ) → Memᴰ d (order (decode t)) → d < length (decode t)
  listed_in d m = (listed-declared (decode t) a d m).0

  pub ordered-bytes : decode (all_bytes t (order (decode t))) ≡ ordered (decode t)
  unfolding ordered
  ordered-bytes = all-decode t (order (decode t)) listed_in

  pub ordered-length : length (all_bytes t (order (decode t))) ≡ 40 * length (ordered (decode t))
  unfolding ordered
  ordered-length = all-length t (order (decode t)) listed_in

-- what the visits leave
module _ (t : List ℕ) {rs : List Record} (is : rs ≡ decode t) {o : VisitProgress} {f₀ f : List ℕ} {a : VisitProgress} (h₀ : StateHeld rs o f₀ (visited rs) a f) where
  held : StateHeld (decode t) o f₀ (visited (decode t)) a f
  held = subst (λ (x : List Record). StateHeld x o f₀ (visited x) a f) is h₀

  pub bytes-faulty : (out : List ℕ) → 0 < a.tally.total → BytesChecked t f₀ out f out (Err a.tally)
  bytes-faulty out l = let r = ret-faulty _ held [] l in (r.0, r.1, refl)

  module _ (z : a.tally.total ≤ 0) (few : length (decode t) ≤ 1600) where
    pub order-fits : a.listed ≤ 1600
    order-fits = listed-short _ held z few

    module _ {l : List ℕ} (i : o ≡ started) (e : l ≡ take a.listed a.places) where
      places_are : l ≡ order (decode t)
      unfolding order
      places_are = e ∙ order-read (decode t) o f₀ a f (rw (i, places-started) few) few held

      pub call-bytes : (out : List ℕ) → 40 * length (decode t) ≤ length out → BytesPlaced (decode t) l out
      call-bytes out w =
          let p = call-copy _ held z few i e (decode t) (omega arith) in
          record { within = p.within; fits = omega (arith, p.fits) }

      pub ret-bytes : {out out' : List ℕ} {n : ℕ} → (n ≡ length (all_records (decode t) l)) × (out' ≡ written out 0 (all_bytes t l)) → BytesChecked t f₀ out f out' (Ok n)
      ret-bytes {out} {out'} {n} c =
          let r = ret-copied _ held z few i e {out = decode t} (c.0, refl) in
          let made : out' ≡ written out 0 (all_bytes t (order (decode t))) = rw places_are at c.1 in
          let count = r.2.count in (
            r.0,
            r.1,
            record {
              count = count;
              short = r.2.short;
              bytes = made;
              records = grind (arith, common_steps, made, count, ordered-length t r.0, ordered-bytes t r.0);
            },
          )
