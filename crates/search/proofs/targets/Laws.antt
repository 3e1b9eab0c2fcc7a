-- Nothing that a search looks for is past the end. Assumes nothing.
use mathlib.Core.Path.{◌≡◌, refl}
use mathlib.Core.Bool.{false}
use Rattle.rules.specs.Table.{blank}
use Rattle.rules.specs.Places.{holds}
use Rattle.rules.specs.declared.Target.{Target}
use Rattle.rules.specs.declared.Target.TheVariants.{Decl, DeclNamed, FieldOrDecl, NameOrDecl, SizeOrDecl, ElementSizeOrDecl, SizedOrDecl, PayloadOrDecl, TagOrDecl, OuterTagOrDecl, ValueOrDecl, DefaultOrDecl, Range}

pub holds-blank : (x : Target) → holds x blank ≡ false
holds-blank Decl = refl
holds-blank (DeclNamed n) = refl
holds-blank FieldOrDecl = refl
holds-blank (NameOrDecl n) = refl
holds-blank (SizeOrDecl n) = refl
holds-blank (ElementSizeOrDecl n) = refl
holds-blank (SizedOrDecl n) = refl
holds-blank PayloadOrDecl = refl
holds-blank (TagOrDecl n) = refl
holds-blank (OuterTagOrDecl n) = refl
holds-blank (ValueOrDecl v) = refl
holds-blank DefaultOrDecl = refl
holds-blank Range = refl
