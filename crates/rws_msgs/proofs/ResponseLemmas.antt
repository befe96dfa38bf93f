-- A response is decoded again from what `encode` writes.
use Rattle.std.proofs.Common.{◌≡◌, ℕ, ◌^◌, ◌<◌, ◌%◌, Bool, true, false, List, [], ◌∷◌, ◌++◌, length, replicate, Option, Some, None, Ok, refl, append_assoc, arith}
use Rattle.std.specs.Prelude.{◌&&◌, not}
use Rattle.rws_wire.specs.Lenenc.{lenenc}
use Rattle.rws_wire.specs.Numbers.{bytes_of}
use Rattle.rws_msgs.specs.declared.response.Response.{Response}
use Rattle.rws_msgs.specs.Fields.{bytes_at, ended, last_text_at, lenenc_at, text_at}
use Rattle.rws_msgs.specs.ResponseLayout.{IsAnswer, IsName, IsResponse, ResponseFits, answer_at, answer_bytes, attributes_at, attributes_bytes, front_bytes, name_at, name_bytes, names_at, names_bytes, response_at, response_bytes, with_attributes, with_database, with_lenenc, with_plugin}
use Rattle.rws_msgs.proofs.FieldLemmas.{bytes_again, byte_again, number_again, text_again, zero_text_again}

answer_again : (lenenc : Bool) (answer rest : List ℕ) → length answer < 2 ^ 64 → IsAnswer lenenc answer → answer_at lenenc (answer_bytes lenenc answer ++ rest) ≡ Ok (answer, rest)
unfolding answer_at answer_bytes
answer_again true answer rest lt fits = text_again answer rest lt
answer_again false answer rest lt fits =
    let size : length answer % 256 ≡ length answer = omega (arith, fits) in
    rw (size, byte_again (length answer) (answer ++ rest), bytes_again answer rest (length answer) refl) refl

name_again : (given last : Bool) (name : Option (List ℕ)) (rest : List ℕ) → IsName given name → name_at given last (name_bytes name ++ rest) ≡ Ok (name, rest)
unfolding name_at name_bytes last_text_at
name_again false last None rest fits = refl
name_again false last (Some text) rest fits = absurd fits
name_again true last None rest fits = absurd fits
name_again true true (Some text) rest fits = rw (append_assoc text (0x00 ∷ []) rest, zero_text_again text rest fits) refl
name_again true false (Some text) rest fits = rw (append_assoc text (0x00 ∷ []) rest, zero_text_again text rest fits) refl

attributes_again : (given : Bool) → attributes_at given (attributes_bytes given) ≡ Ok []
unfolding attributes_at attributes_bytes text_at lenenc_at lenenc bytes_at
attributes_again false = refl
attributes_again true = refl

names_again : (response : Response) → IsResponse response → names_at response.flags (names_bytes response) ≡ Ok (response.database, response.plugin)
unfolding names_at names_bytes ended
names_again response is =
    let flags : ℕ = response.flags in
    let attributes : List ℕ = attributes_bytes (with_attributes flags) in
    rw (
      name_again (with_database flags) (not (with_plugin flags) && not (with_attributes flags)) response.database (name_bytes response.plugin ++ attributes) is.database,
      name_again (with_plugin flags) (not (with_attributes flags)) response.plugin attributes is.plugin,
      attributes_again (with_attributes flags),
    ) refl

pub response_again : (response : Response) → ResponseFits response → IsResponse response → response_at (response_bytes response) ≡ Ok response
unfolding response_at response_bytes front_bytes
response_again response fits is =
    let flags : List ℕ = bytes_of 4 response.flags in
    let greatest : List ℕ = bytes_of 4 0x1000000 in
    let filler : List ℕ = replicate 23 0 in
    let user : List ℕ = response.user in
    let names : List ℕ = names_bytes response in
    let back : List ℕ = answer_bytes (with_lenenc response.flags) response.answer ++ names in
    rw (
      append_assoc flags (greatest ++ response.charset ∷ (filler ++ (user ++ 0x00 ∷ []))) back,
      append_assoc greatest (response.charset ∷ (filler ++ (user ++ 0x00 ∷ []))) back,
      append_assoc user (0x00 ∷ []) back,
      number_again 4 response.flags (greatest ++ response.charset ∷ (filler ++ (user ++ 0x00 ∷ back))) fits.flags,
      number_again 4 0x1000000 (response.charset ∷ (filler ++ (user ++ 0x00 ∷ back))) (omega arith),
      byte_again response.charset (filler ++ (user ++ 0x00 ∷ back)),
      bytes_again filler (user ++ 0x00 ∷ back) 23 refl,
      zero_text_again user back is.user,
      answer_again (with_lenenc response.flags) response.answer names fits.answer is.answer,
      names_again response is,
    ) refl
