-- A greeting is decoded again from what `encode` writes.
use Rattle.std.proofs.Common.{◌≡◌, ℕ, List, [], ◌∷◌, ◌++◌, length, take, drop, replicate, Result, Ok, refl, ap, ◌∙◌, append_assoc, arith}
use Rattle.std.proofs.lemmas.List.{append-nil, length-take-le, length-drop, take-append-drop, take_at, drop_at}
use borrow.Rule.Slice.PartMut.{put_mid}
use Rattle.rws_wire.specs.Numbers.{bytes_of, number_of}
use Rattle.rws_wire.proofs.NumberLemmas.{length-bytes_of, number_of-bytes_of}
use Rattle.rws_msgs.specs.declared.fault.MsgFault.{MsgFault}
use Rattle.rws_msgs.specs.declared.greeting.Greeting.{Greeting}
use Rattle.rws_msgs.specs.declared.greeting.Abilities.{Abilities}
use Rattle.rws_msgs.specs.Fields.{HasNoZero, last_text_at, ended}
use Rattle.rws_msgs.specs.GreetingLayout.{GreetingFits, abilities_at, abilities_bytes, back_bytes, front_bytes, greeting_at, greeting_bytes, last_piece_at, plugin_at}
use Rattle.rws_msgs.proofs.FieldLemmas.{fixed_again, number_again, byte_again, bytes_again, zero_text_again}

abbrev abilities_of : Greeting → Abilities
abilities_of greeting = record { capabilities = greeting.capabilities; charset = greeting.charset; status = greeting.status }

abbrev with_capabilities : Greeting → List ℕ → ℕ → Result (Abilities × List ℕ) MsgFault
with_capabilities greeting rest capabilities = Ok (record { capabilities = capabilities; charset = greeting.charset; status = greeting.status }, rest)

abbrev with_scramble : Greeting → List ℕ → Result Greeting MsgFault
with_scramble greeting scramble = Ok (record {
  version = greeting.version;
  id = greeting.id;
  scramble = scramble;
  capabilities = greeting.capabilities;
  charset = greeting.charset;
  status = greeting.status;
  plugin = greeting.plugin;
})

abilities_again : (greeting : Greeting) (rest : List ℕ) → GreetingFits greeting → abilities_at (abilities_bytes greeting ++ rest) ≡ Ok (abilities_of greeting, rest)
unfolding abilities_at abilities_bytes
abilities_again greeting rest fits =
    let all : List ℕ = bytes_of 4 greeting.capabilities in
    let four : length all ≡ 4 = length-bytes_of 4 greeting.capabilities in
    let low : length (take 2 all) ≡ 2 = length-take-le 2 all (omega (arith, four)) in
    let high : length (drop 2 all) ≡ 2 = omega (arith, four, length-drop 2 all) in
    rw (
      append_assoc (take 2 all) (greeting.charset ∷ (bytes_of 2 greeting.status ++ drop 2 all)) rest,
      append_assoc (bytes_of 2 greeting.status) (drop 2 all) rest,
      bytes_again (take 2 all) (greeting.charset ∷ (bytes_of 2 greeting.status ++ (drop 2 all ++ rest))) 2 low,
      byte_again greeting.charset (bytes_of 2 greeting.status ++ (drop 2 all ++ rest)),
      number_again 2 greeting.status (drop 2 all ++ rest) fits.status,
      bytes_again (drop 2 all) rest 2 high,
    ) (ap (with_capabilities greeting rest) (ap number_of (take-append-drop 2 all) ∙ number_of-bytes_of 4 greeting.capabilities fits.capabilities))

last_piece_again : (piece rest : List ℕ) → length piece ≡ 12 → last_piece_at (21 ∷ (replicate 10 0 ++ (piece ++ 0x00 ∷ rest))) ≡ Ok (piece, rest)
unfolding last_piece_at
last_piece_again piece rest size =
    rw (
      byte_again 21 (replicate 10 0 ++ (piece ++ 0x00 ∷ rest)),
      bytes_again (replicate 10 0) (piece ++ 0x00 ∷ rest) 10 refl,
      bytes_again piece (0x00 ∷ rest) 12 size,
      fixed_again 0x00 rest,
    ) refl

plugin_again : (plugin : List ℕ) → HasNoZero plugin → plugin_at (plugin ++ 0x00 ∷ []) ≡ Ok plugin
unfolding plugin_at last_text_at ended
plugin_again plugin none = rw (zero_text_again plugin [] none) refl

abbrev zeros : List ℕ
zeros = 0 ∷ 0 ∷ 0 ∷ 0 ∷ 0 ∷ 0 ∷ 0 ∷ 0 ∷ 0 ∷ 0 ∷ 0 ∷ 0 ∷ []

pub joined_is : (first last : List ℕ) → length first ≡ 8 → put_mid 8 12 (first ++ zeros) last ≡ first ++ last
joined_is first last size = rw (take_at first zeros 8 size, drop_at first zeros 8 size) (ap (λ (t : List ℕ). first ++ t) (append-nil last))

pub greeting_again : (greeting : Greeting) → GreetingFits greeting → HasNoZero greeting.version → HasNoZero greeting.plugin → greeting_at (greeting_bytes greeting) ≡ Ok greeting
unfolding greeting_at greeting_bytes front_bytes back_bytes
greeting_again greeting fits version plugin =
    let id : List ℕ = bytes_of 4 greeting.id in
    let first : List ℕ = take 8 greeting.scramble in
    let last : List ℕ = drop 8 greeting.scramble in
    let first_size : length first ≡ 8 = length-take-le 8 greeting.scramble (omega (arith, fits.scramble)) in
    let last_size : length last ≡ 12 = omega (arith, fits.scramble, length-drop 8 greeting.scramble) in
    let abilities : List ℕ = abilities_bytes greeting in
    let end : List ℕ = greeting.plugin ++ 0x00 ∷ [] in
    let back : List ℕ = 21 ∷ (replicate 10 0 ++ (last ++ 0x00 ∷ end)) in
    rw (
      append_assoc greeting.version (0x00 ∷ (id ++ (first ++ 0x00 ∷ abilities))) back,
      append_assoc id (first ++ 0x00 ∷ abilities) back,
      append_assoc first (0x00 ∷ abilities) back,
      fixed_again 0x0A (greeting.version ++ 0x00 ∷ (id ++ (first ++ 0x00 ∷ (abilities ++ back)))),
      zero_text_again greeting.version (id ++ (first ++ 0x00 ∷ (abilities ++ back))) version,
      number_again 4 greeting.id (first ++ 0x00 ∷ (abilities ++ back)) fits.id,
      bytes_again first (0x00 ∷ (abilities ++ back)) 8 first_size,
      fixed_again 0x00 (abilities ++ back),
      abilities_again greeting back fits,
      last_piece_again last end last_size,
      plugin_again greeting.plugin plugin,
    ) (ap (with_scramble greeting) (take-append-drop 8 greeting.scramble))
