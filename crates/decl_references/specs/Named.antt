-- What a name refers to, by the declaration found: the form that the four definitions of `DeclIdentifiers` share.
use Rattle.std.specs.Prelude.{ℕ, Bool, if◌then◌else◌, None, Option, Some}
use Rattle.rules.specs.declared.Reference.{Reference}
use Rattle.rules.specs.declared.Reference.TheVariants.{Nowhere, Wrong, Follow}

-- the code missing where there is none, invalid where it is not allowed; an allowed one is followed, or only checked
abbrev pub named_reference : ℕ → ℕ → Bool → Bool → ℕ → Option ℕ → Reference
named_reference missing invalid allowed followed p None = Wrong missing p
named_reference missing invalid allowed followed p (Some e) =
    if allowed then if followed then Follow e else Nowhere else Wrong invalid p
