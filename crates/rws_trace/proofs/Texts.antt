-- Texts behind others.
use Rattle.std.proofs.Common.{◌≡◌, ℕ, ◌+◌, List, ◌++◌, length, take, Option, sym, subst}
use Rattle.std.proofs.Math.Seq.{take-append-add}
use Rattle.std.proofs.KnownBytes.{Appends-trans}
use Rattle.std.proofs.lemmas.Grind.{flat_map-append}
use Rattle.std.specs.Io.KnownBytes.{Appends}
use Rattle.rws_board.specs.Put.{AppendsFront}
use Rattle.rws_board.specs.declared.interaction.Interaction.{Interaction}
use Rattle.rws_trace.specs.Printing.{text_of, text_of_one}

pub text_of-append : (xs ys : List Interaction) → text_of (xs ++ ys) ≡ text_of xs ++ text_of ys
text_of-append xs ys = flat_map-append text_of_one xs ys

-- a text, and then a front of another
pub front-behind : (taken taken' taken'' : Option (List ℕ)) (xs ys : List ℕ) → Appends taken taken' xs → AppendsFront taken' taken'' ys → AppendsFront taken taken'' (xs ++ ys)
front-behind taken taken' taken'' xs ys first front = (
  length xs + front.0,
  subst (λ (bytes : List ℕ). Appends taken taken'' bytes) (sym (take-append-add xs ys front.0))
      (Appends-trans taken taken' taken'' xs (take front.0 ys) first front.1),
)
