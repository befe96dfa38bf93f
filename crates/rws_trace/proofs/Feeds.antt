-- Lines round their feeds, and lines that are gathered from pieces.
use Rattle.std.proofs.Common.{◌≡◌, ℕ, ◌+◌, ◌<◌, ◌≤◌, ◌==◌, false, List, [], ◌∷◌, ◌++◌, length, take, drop, get_or, Some, None, position, refl, sym, ◌∙◌, ap, arith, length-append, length-take, append_assoc, append-nil}
use Rattle.std.specs.List.{onto_first}
use Rattle.std.proofs.lemmas.Bool.Decides.{nat_tests}
use Rattle.std.proofs.lemmas.List.{get_or-take}
use Rattle.std.proofs.lemmas.List.Elements.{All-head, All-tail, All-append}
use Rattle.std.proofs.lemmas.List.Quantifiers.{position-Some}
use Rattle.std.proofs.lemmas.List.Sums.{split_at_first}
use Rattle.rws_trace.specs.Gathering.{IsPart, IsTooLong}
use Rattle.rws_trace.specs.Lines.{lines_of, IsFeedless}
use Rattle.rws_trace.specs.Lines.Begins.{fed}
use Rattle.rws_trace.specs.Reader.{IsFound}
use Rattle.rws_trace.specs.declared.event_line.TheConstants.{MAX_LINE}
use Rattle.rws_trace.specs.declared.found.Found.TheVariants.{Line, TooLong}
use Rattle.rws_trace.proofs.Splits.{position-some, fails_all, fails_front}

-- the first line ends at the first feed
pub lines_of-feed : (front rest : List ℕ) → IsFeedless front → lines_of (front ++ 10 ∷ rest) ≡ front ∷ lines_of rest
lines_of-feed [] rest free = refl
lines_of-feed (byte ∷ front) rest free =
    let other : (byte == 10) ≡ false = All-head (λ b. (b == 10) ≡ false) byte front free in
    rw (other, lines_of-feed front rest (All-tail (λ b. (b == 10) ≡ false) byte front free))

-- without a feed there is one line
pub lines_of-last : (front : List ℕ) → IsFeedless front → 0 < length front → lines_of front ≡ front ∷ []
lines_of-last [] free some = absurd (omega arith)
lines_of-last (byte ∷ []) free some =
    let other : (byte == 10) ≡ false = All-head (λ b. (b == 10) ≡ false) byte [] free in
    rw other
lines_of-last (byte ∷ next ∷ front) free some =
    let other : (byte == 10) ≡ false = All-head (λ b. (b == 10) ≡ false) byte (next ∷ front) free in
    let rest = lines_of-last (next ∷ front) (All-tail (λ b. (b == 10) ≡ false) byte (next ∷ front) free) (omega arith) in
    rw (other, rest)

-- lines, of which the first has so many bytes or more
pub record StartsLong (lines : List (List ℕ)) (least : ℕ) : Type 0 where
  pub first : List ℕ
  pub others : List (List ℕ)
  pub parts : lines ≡ first ∷ others
  pub long : least ≤ length first

StartsLong-onto : (byte : ℕ) (lines : List (List ℕ)) → StartsLong (onto_first byte lines) 1
StartsLong-onto byte [] = record { first = byte ∷ []; others = []; parts = refl; long = omega arith }
StartsLong-onto byte (line ∷ lines) = record { first = byte ∷ line; others = lines; parts = refl; long = omega arith }

StartsLong-more : (byte : ℕ) (lines : List (List ℕ)) (least : ℕ) → StartsLong lines least → StartsLong (onto_first byte lines) (least + 1)
StartsLong-more byte lines least long =
    record { first = byte ∷ long.first; others = long.others; parts = ap (onto_first byte) long.parts; long = omega (arith, long.long) }

-- a front without a feed is part of the first line
pub lines_of-front : (front rest : List ℕ) → IsFeedless front → 0 < length front → StartsLong (lines_of (front ++ rest)) (length front)
lines_of-front [] rest free some = absurd (omega arith)
lines_of-front (byte ∷ []) rest free some =
    let other : (byte == 10) ≡ false = All-head (λ b. (b == 10) ≡ false) byte [] free in
    rw other (StartsLong-onto byte (lines_of rest))
lines_of-front (byte ∷ next ∷ front) rest free some =
    let other : (byte == 10) ≡ false = All-head (λ b. (b == 10) ≡ false) byte (next ∷ front) free in
    let more = lines_of-front (next ∷ front) rest (All-tail (λ b. (b == 10) ≡ false) byte (next ∷ front) free) (omega arith) in
    let long = StartsLong-more byte (lines_of (next ∷ front ++ rest)) (length (next ∷ front)) more in
    rw other (record { first = long.first; others = long.others; parts = long.parts; long = omega (arith, long.long) })

module _ (piece : List ℕ) where
  pub feedless-all : position (λ b. b == 10) piece ≡ None → IsFeedless piece
  feedless-all none = fails_all (λ b. b == 10) piece none

  pub feedless-front : (end : ℕ) → position (λ b. b == 10) piece ≡ Some end → IsFeedless (take end piece)
  feedless-front end some =
      λ k d below. let within : k < end = omega (arith, below, length-take end piece) in rw get_or-take (fails_front (λ b. b == 10) piece end some k d within)

  pub piece-parts : (end : ℕ) → position (λ b. b == 10) piece ≡ Some end → piece ≡ take end piece ++ 10 ∷ drop (end + 1) piece
  piece-parts end some =
      let place = position-some (λ b. b == 10) piece end some in
      let parts = split_at_first (λ b. b == 10) piece 0 (omega arith) in
      let feed : get_or piece end 0 ≡ 10 = grind (arith, nat_tests, position-Some (λ b. b == 10) piece end 0 some) in
      rw (place.0, feed) at parts

-- two parts of a line
pub IsPart-append : (line bytes : List ℕ) → IsPart line → IsFeedless bytes → length line + length bytes ≤ MAX_LINE → IsPart (line ++ bytes)
IsPart-append line bytes part free short =
    record { feedless = All-append (λ b. (b == 10) ≡ false) line bytes part.feedless free; short = omega (arith, length-append line bytes, short) }

pub IsTooLong-append : (line bytes rest : List ℕ) → IsPart line → IsFeedless bytes → MAX_LINE < length line + length bytes → IsTooLong (line ++ (bytes ++ rest))
IsTooLong-append line bytes rest part free long =
    record {
      front = line ++ bytes;
      rest = rest;
      parts = sym (append_assoc line bytes rest);
      feedless = All-append (λ b. (b == 10) ≡ false) line bytes part.feedless free;
      long = omega (arith, length-append line bytes, long);
    }

-- a line that is too long stays so, however the text goes on
pub found-long : (line bytes rest line' rest' : List ℕ) → IsTooLong (line ++ bytes) → IsFound TooLong line' (line ++ (bytes ++ rest)) rest'
found-long line bytes rest line' rest' long =
    let starts = lines_of-front long.front (long.rest ++ rest) long.feedless (omega (arith, long.long)) in
    let same : line ++ (bytes ++ rest) ≡ long.front ++ (long.rest ++ rest) =
    sym (append_assoc line bytes rest) ∙ ap (λ xs. xs ++ rest) long.parts ∙ append_assoc long.front long.rest rest in
    rw same (starts.first, starts.others, starts.parts, omega (arith, starts.long, long.long))

-- the line that ends at a feed
pub found-line : (line bytes rest line' bytes' : List ℕ) → IsFeedless line' → line ++ bytes ≡ line' ++ 10 ∷ bytes' → IsFound Line line' (line ++ (bytes ++ rest)) (bytes' ++ rest)
found-line line bytes rest line' bytes' free same =
    fed free (sym (append_assoc line bytes rest) ∙ ap (λ xs. xs ++ rest) same ∙ append_assoc line' (10 ∷ bytes') rest)

-- the line that ends in a piece, and what the piece has behind it
pub gathers-line : (line piece line' piece' : List ℕ) (end : ℕ) → position (λ b. b == 10) piece ≡ Some end → line' ≡ line ++ take end piece → piece' ≡ drop (end + 1) piece → line ++ piece ≡ line' ++ 10 ∷ piece'
gathers-line line piece line' piece' end some is rest =
    rw (is, rest) (ap (λ xs. line ++ xs) (piece-parts piece end some) ∙ sym (append_assoc line (take end piece) (10 ∷ drop (end + 1) piece)))

pub gathers-long : (line piece : List ℕ) (end : ℕ) → position (λ b. b == 10) piece ≡ Some end → IsPart line → MAX_LINE < length line + length (take end piece) → IsTooLong (line ++ piece)
gathers-long line piece end some part long =
    let parts = ap (λ xs. line ++ xs) (piece-parts piece end some) in
    rw parts (IsTooLong-append line (take end piece) (10 ∷ drop (end + 1) piece) part (feedless-front piece end some) long)

pub gathers-long_all : (line piece : List ℕ) → position (λ b. b == 10) piece ≡ None → IsPart line → MAX_LINE < length line + length piece → IsTooLong (line ++ piece)
gathers-long_all line piece none part long =
    rw append-nil at (IsTooLong-append line piece [] part (feedless-all piece none) long)
