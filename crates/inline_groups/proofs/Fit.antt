-- The records of the inlined table are values of their types, so what is written of them is read back. Assumes nothing.
use Rattle.std.proofs.Common.{Option, None, Some, Ok}
use Prim.Native.Nat.{ℕ, zero, suc, ◌+◌, ◌-◌, ◌<◌}
use mathlib.Core.Path.{◌≡◌, refl}
use mathlib.Core.List.{List, [], ◌∷◌, ◌++◌, map}
use mathlib.Core.Bool.{Bool, true, false, ◌&&◌}
use native.Mathlib.Omega.{arith}
use lib.Dec.{eqb}
use lib.ListN.{length, get_or, take}
use Rattle.rules.specs.Table.{at, decode, encode}
use Rattle.rules.specs.Places.{each, decl_named}
use Rattle.rules.specs.Kinds.{is_decl}
use Rattle.rules.specs.InlineGroups.{fixed_scalar, fixed_enum, lookup, under, inlined_record, is_constraint_or_condition, is_kept, after_group, own_constraints, group_fields, inlined_field, inlined_fields, expand, inlined_at, inlined, record_of}
use Rattle.rules.specs.declared.Record.{Record}
use Rattle.rules.specs.declared.Inlined.{Inlined}
use Rattle.records.proofs.Codec.{Fits, AllFit, none, more, at-fits, decode-encode}
use Rattle.inline_groups.specs.Inlinings.{inlining, inlining_records}
use Rattle.inline_groups.proofs.Replies.{written-records}

data Good : List Inlined → Type 0 where
  good_none : Good []
  good_more : {x : Inlined} {xs : List Inlined} → Fits x.made → Good xs → Good (x ∷ xs)

good-append : {xs : List Inlined} (ys : List Inlined) → Good xs → Good ys → Good (xs ++ ys)
good-append ys good_none h = h
good-append ys (good_more f g) h = good_more f (good-append ys g h)

good-all : {xs : List Inlined} → Good xs → AllFit (map record_of xs)
good-all good_none = none
good-all (good_more f g) = more f (good-all g)

module _ (rs : List Record) (ok : (p : ℕ) → Fits (at rs p)) where
  scalar_fits : (r c : Record) → Fits r → Fits c → Fits (fixed_scalar r c).made
  scalar_fits r c f g =
      record { kind = omega arith; marks = omega arith; name = omega arith; second = omega arith; third = omega arith; one = f.one; two = g.one; key = f.key; start = f.start; end = f.end }

  enum-fits : (r c : Record) → Fits r → Fits c → Fits (fixed_enum r c).made
  enum-fits r c f g =
      record { kind = omega arith; marks = omega arith; name = omega arith; second = f.second; third = g.second; one = omega arith; two = omega arith; key = f.key; start = f.start; end = f.end }

  under-fits : (fix : Record → Record → Inlined) → ((r c : Record) → Fits r → Fits c → Fits (fix r c).made) → (r : Record) → Fits r → (f : Option ℕ) → Fits (under fix rs r f).made
  unfolding under
  under-fits fix h r g None = g
  under-fits fix h r g (Some q) = h r (at rs q) g (ok q)

  made-fits : (env : List ℕ) (r : Record) → Fits r → Fits (inlined_record rs env r).made
  unfolding inlined_record
  made-fits env r f = go (eqb r.kind 31) refl (eqb r.kind 33) refl
    where
      go : (b : Bool) → eqb r.kind 31 ≡ b → (c : Bool) → eqb r.kind 33 ≡ c → Fits (inlined_record rs env r).made
      go true i c j = rw (inlined_record, i) (under-fits fixed_scalar scalar_fits r f (lookup rs env r.name))
      go false i true j = rw (inlined_record, i, j) (under-fits fixed_enum enum-fits r f (lookup rs env r.name))
      go false i false j = rw (inlined_record, i, j) f

  module _ (e : List ℕ → ℕ → List Inlined) (good : (env : List ℕ) (g : ℕ) → Good (e env g)) where
    group-good : (env : List ℕ) (f : Option ℕ) → Good (group_fields e env f)
    unfolding group_fields
    group-good env None = good_none
    group-good env (Some g) = good env g

    field-good : (env : List ℕ) (p : ℕ) → Good (inlined_field e rs env p)
    unfolding inlined_field
    field-good env p = go (eqb (at rs p).kind 34) refl (is_constraint_or_condition (at rs p).kind && after_group rs p) refl
      where
        go : (b : Bool) → eqb (at rs p).kind 34 ≡ b → (c : Bool) → (is_constraint_or_condition (at rs p).kind && after_group rs p) ≡ c → Good (inlined_field e rs env p)
        go true i c j = rw (inlined_field, i) (group-good (env ++ own_constraints rs p) (decl_named rs (at rs p).second))
        go false i true j = rw (inlined_field, i, j) good_none
        go false i false j = rw (inlined_field, i, j) (good_more (made-fits env (at rs p) (ok p)) good_none)

    fields-good : (env : List ℕ) (n p : ℕ) → Good (inlined_fields e rs env p n)
    unfolding inlined_fields
    fields-good env zero p = good_none
    fields-good env (suc n) p = go (fields-good env n (p + 1)) (is_decl (at rs p).kind) refl
      where
        go : Good (inlined_fields e rs env (p + 1) n) → (b : Bool) → is_decl (at rs p).kind ≡ b → Good (inlined_fields e rs env p (suc n))
        go r true i = rw (inlined_fields, i) good_none
        go r false i = rw (inlined_fields, i) (good-append (inlined_fields e rs env (p + 1) n) (field-good env p) r)

  expand-good : (k : ℕ) (env : List ℕ) (d : ℕ) → Good (expand rs k env d)
  unfolding expand
  expand-good zero env d = good_none
  expand-good (suc k) env d = fields-good (expand rs k) (expand-good k) env (length rs - (d + 1)) (d + 1)

  at-good : (d : ℕ) → Good (inlined_at rs d)
  unfolding inlined_at
  at-good d = go (is_kept (at rs d).kind) refl
    where
      go : (b : Bool) → is_kept (at rs d).kind ≡ b → Good (inlined_at rs d)
      go true i = rw (inlined_at, i) (good_more (ok d) (expand-good (length rs) [] d))
      go false i = rw (inlined_at, i) good_none

  each-good : (n : ℕ) → Good (each (inlined_at rs) n)
  unfolding each
  each-good zero = good_none
  each-good (suc d) = good-append (inlined_at rs d) (each-good d) (at-good d)

  pub inlined-fits : AllFit (map record_of (inlined rs))
  unfolding inlined
  inlined-fits = good-all (each-good (length rs))

-- the records of the inlined table of a table of bytes, written as bytes, are read back
pub read-records : (t : List ℕ) (small : (i : ℕ) → get_or t i 0 < 256) (b : List Record) (n : ℕ) → inlining (length b) (inlined (decode t)) ≡ Ok n
    → decode (encode (take n (inlining_records b (inlined (decode t))))) ≡ map record_of (inlined (decode t))
read-records t small b n e =
    rw (written-records b (inlined (decode t)) n e) (decode-encode (map record_of (inlined (decode t))) (inlined-fits (decode t) (at-fits t small)))
