-- What the code's answers stand for in laws/Parsing: a text begins so, and what follows is the rest.
use Rattle.std.specs.Prelude.{◌≡◌, List, ℕ, ◌≤◌, length, IfSome, Option, Some, None}
use Rattle.std.specs.Borrow.{Bor}
use Rattle.text.specs.Text.{bytes}
use Rattle.paper.specs.laws.Parsing.{Front, got, none, word_front, natural_front, signed_front}
use Rattle.fields.specs.declared.Kind.{Kind}
use Rattle.fields.specs.declared.Kind.TheVariants.{Name, X, Y, Natural, Signed}

-- What reads a field of that kind.
abbrev pub content_of : Kind → List ℕ → Front ℕ
content_of Name = word_front (bytes "name")
content_of X = word_front (bytes "x")
content_of Y = word_front (bytes "y")
content_of Natural = natural_front
content_of Signed = signed_front

-- The rest after what has no value;
abbrev pub rest_front : Option (Bor (List ℕ)) → Front (Unit {0})
rest_front (Some rest) = got tt rest.now
rest_front None = none

-- a number, and the rest.
abbrev pub number_front : Option (ℕ × Bor (List ℕ)) → Front ℕ
number_front (Some said) = got said.0 said.1.now
number_front None = none

-- A reader's answer at a text is that, and no more is left than there was.
abbrev pub Reads : (List ℕ → Front ℕ) → List ℕ → Option (ℕ × Bor (List ℕ)) → Type 0
Reads front text r = record { front : front text ≡ number_front r; shorter : IfSome r (λ said. length said.1.now ≤ length text) }
