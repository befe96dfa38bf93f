-- A statement of too many tokens has no fixed form.
use Rattle.std.proofs.Common.{◌≡◌, ℕ, suc, ◌≤◌, Bool, true, false, ◌&&◌, cond, List, [], ◌∷◌, length, nat_lt, refl, ap, arith}
use Rattle.std.specs.List.{list_all}
use Rattle.std.proofs.lemmas.Bool.{ltb-true}
use Rattle.rws_token.specs.Lexeme.{Lexeme}
use Rattle.rws_class.specs.Forms.{Part, Form, fits, reads, form_class}
use Rattle.rws_class.specs.declared.class.Class.TheVariants.{Other}

-- a statement that reads as a form has as many tokens
reads-length : (parts : List Part) (ts : List Lexeme) → reads parts ts ≡ true → length ts ≡ length parts
reads-length [] [] same = refl
reads-length [] (t ∷ ts) same = cc
reads-length (part ∷ parts) [] same = cc
reads-length (part ∷ parts) (t ∷ ts) same = go (fits part t) same (reads-length parts ts)
  where
    go : (b : Bool) → (b && reads parts ts) ≡ true → (reads parts ts ≡ true → length ts ≡ length parts) → suc (length ts) ≡ suc (length parts)
    go true same rest = ap suc (rest same)
    go false same rest = cc

abbrev IsShort : ℕ → List Form → Type 0
IsShort bound forms = list_all (λ form. nat_lt (length form.parts) bound) forms ≡ true

pub form_class-long : (bound : ℕ) (forms : List Form) (ts : List Lexeme) → IsShort bound forms → bound ≤ length ts → form_class forms ts ≡ Other
form_class-long bound [] ts short long = refl
form_class-long bound (form ∷ forms) ts short long =
    go (nat_lt (length form.parts) bound) refl (reads form.parts ts) refl short (λ rest. form_class-long bound forms ts rest long)
  where
    go : (low : Bool) → nat_lt (length form.parts) bound ≡ low → (same : Bool) → reads form.parts ts ≡ same → (low && list_all (λ f. nat_lt (length f.parts) bound) forms) ≡ true → (IsShort bound forms → form_class forms ts ≡ Other) → cond same form.class (form_class forms ts) ≡ Other
    go true is_low true is_same all rest = absurd (omega (arith, ltb-true (length form.parts) bound is_low, reads-length form.parts ts is_same))
    go true is_low false is_same all rest = rest all
    go false is_low same is_same all rest = cc
