-- What pass 3 finds at a place, by the mark and the kind there. Assumes nothing.
use Rattle.std.proofs.Common.{arith, ℕ, ◌≡◌, Bool, true, false, List, [], get_or}
use Rattle.std.proofs.lemmas.Grind.{common_steps}
use Rattle.rules.specs.Kinds.{is_named_field}
use Rattle.rules.specs.Table.{at}
use Rattle.rules.specs.EnumDeclarations.{again}
use Rattle.rules.specs.FieldIdentifiers.{pass3_at}
use Rattle.rules.specs.declared.Record.{Record}
use Rattle.rules.specs.declared.Target.TheVariants.{NameOrDecl}
use Rattle.repeats.specs.Marks.{Marked}
use Rattle.repeats.specs.declared.marks.Compared.TheVariants.{FieldNames}
use Rattle.repeats.proofs.Laws.{not-again}

-- where the mark is false
pub passed_over : (rs : List Record) (marks : List Bool) (p : ℕ) → Marked rs FieldNames marks → get_or marks p true ≡ false → [] ≡ pass3_at rs p
unfolding again pass3_at
passed_over rs marks p m e = grind (arith, common_steps, not-again 11 rs FieldNames (at rs p).name p, m.clear p)

-- where no named field stands, or one does
module _ (rs : List Record) (p : ℕ) where
  pub unnamed : is_named_field (at rs p).kind ≡ false → [] ≡ pass3_at rs p
  unfolding pass3_at
  unnamed e = rw e

  pub looked_at : is_named_field (at rs p).kind ≡ true → again 11 rs (NameOrDecl (at rs p).name) p ≡ pass3_at rs p
  unfolding again pass3_at
  looked_at e = rw e
