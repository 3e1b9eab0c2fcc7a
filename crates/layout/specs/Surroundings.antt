-- The kinds around a place, carried from place to place.
use Rattle.std.specs.Prelude.{ℕ, List, if◌then◌else◌}
use Rattle.rules.specs.Kinds.{is_decl}
use Rattle.rules.specs.Places.{nearest, holds_at}
use Rattle.rules.specs.Layouts.{found_kind, kind_before}
use Rattle.rules.specs.declared.Record.{Record}
use Rattle.rules.specs.declared.Target.TheVariants.{Decl}
use Rattle.layout.specs.declared.Around.{Around}

-- a declaration of kind e around, and kinds o and then q before
abbrev pub kinds_around : ℕ → ℕ → ℕ → Around
kinds_around e o q = record { decl = e; before2 = o; before1 = q }

-- the kinds around place p
unfoldable pub around : List Record → ℕ → Around
around rs p = kinds_around (found_kind rs (nearest (holds_at rs Decl) p)) (kind_before rs 2 p) (kind_before rs 1 p)

-- the kinds around the next place, behind a record of kind k
unfoldable pub after : Around → ℕ → Around
after a k = kinds_around (if is_decl k then k else a.decl) a.before1 k
