-- Targets by place of a group field: the declaration that it names.
use Rattle.std.specs.Prelude.{ℕ, ◌<◌, ◌≤◌, ◌≡◌, List, true, length, get_or, Some}
use Rattle.rules.specs.Kinds as kind
use Rattle.rules.specs.Kinds.{is}
use Rattle.rules.specs.Table.{at}
use Rattle.rules.specs.Places.{decl_named}
use Rattle.rules.specs.declared.Record.{Record}

-- targets has the declaration that each group field below n names
pub record TargetsKnown (rs : List Record) (targets : List ℕ) (n : ℕ) : Type 0 where
  pub long : length rs ≤ length targets
  pub right : (p : ℕ) → p < n → is kind.group_field (at rs p) ≡ true → decl_named rs (at rs p).second ≡ Some (get_or targets p 0)
