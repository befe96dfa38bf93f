-- An OK is decoded again from what `encode` writes.
use Rattle.std.proofs.Common.{◌≡◌, ℕ, ◌^◌, ◌<◌, Bool, true, false, List, [], ◌∷◌, ◌++◌, length, Ok, refl, sym, ap, ◌∙◌}
use Rattle.std.specs.Prelude.{◌&&◌}
use Rattle.std.proofs.lemmas.List.{append-nil}
use Rattle.rws_wire.specs.Numbers.{bytes_of}
use Rattle.rws_wire.specs.Lenenc.{lenenc, lenenc_bytes}
use Rattle.rws_msgs.specs.declared.ok_msg.OkMsg.{OkMsg}
use Rattle.rws_wire.specs.Reading.{◌>>=◌}
use Rattle.rws_msgs.specs.Fields.{lenenc_at, text_at, text_bytes, ended}
use Rattle.rws_msgs.specs.OkLayout.{IsOkMsg, OkFits, states, state_at, texts_at, texts_bytes, ok_at, ok_bytes}
use Rattle.rws_msgs.proofs.FieldLemmas.{fixed_again, number_again, lenenc_again, text_again}

texts_at_step : (stated : Bool) (bytes info rest : List ℕ) → text_at bytes ≡ Ok (info, rest) → texts_at stated bytes ≡ (state_at stated rest >>= λ state. ended (info, state.0) state.1)
unfolding texts_at text_at lenenc_at lenenc
texts_at_step stated [] info rest e = absurd cc
texts_at_step stated (byte ∷ bytes) info rest e = ap (λ r. r >>= λ text. state_at stated text.1 >>= λ state. ended (text.0, state.0) state.1) e

info_written : (info : List ℕ) → length info < 2 ^ 64 → texts_at false (text_bytes info) ≡ Ok (info, [])
unfolding state_at ended
info_written info fits = texts_at_step false (text_bytes info) info [] (ap text_at (sym (append-nil (text_bytes info))) ∙ text_again info [] fits)

both_written : (info state : List ℕ) → length info < 2 ^ 64 → length state < 2 ^ 64 → texts_at true (text_bytes info ++ text_bytes state) ≡ Ok (info, state)
unfolding state_at ended
both_written info state info_fits state_fits =
    texts_at_step true (text_bytes info ++ text_bytes state) info (text_bytes state) (text_again info (text_bytes state) info_fits)
    ∙ ap (λ r. r >>= λ read. ended (info, read.0) read.1) (ap text_at (sym (append-nil (text_bytes state))) ∙ text_again state [] state_fits)

texts_again : (stated : Bool) (info state : List ℕ) → length info < 2 ^ 64 → length state < 2 ^ 64 → (stated ≡ false → state ≡ [])
    → texts_at stated (texts_bytes stated info state) ≡ Ok (info, state)
unfolding texts_at texts_bytes
texts_again false [] state info_fits state_fits none = ap (λ (t : List ℕ). Ok ([], t)) (sym (none refl))
texts_again false (byte ∷ info) state info_fits state_fits none = info_written (byte ∷ info) info_fits ∙ ap (λ (t : List ℕ). Ok (byte ∷ info, t)) (sym (none refl))
texts_again true [] [] info_fits state_fits none = refl
texts_again true [] (byte ∷ state) info_fits state_fits none = both_written [] (byte ∷ state) info_fits state_fits
texts_again true (byte ∷ info) state info_fits state_fits none = both_written (byte ∷ info) state info_fits state_fits

pub ok_again : (track : Bool) (ok : OkMsg) → OkFits ok → IsOkMsg track ok → ok_at track (ok_bytes track ok) ≡ Ok ok
unfolding ok_at ok_bytes
ok_again track ok fits none =
    let texts = texts_bytes (track && states ok.status) ok.info ok.state in
    rw (
      fixed_again 0x00 (lenenc_bytes ok.affected ++ (lenenc_bytes ok.insert_id ++ (bytes_of 2 ok.status ++ (bytes_of 2 ok.warnings ++ texts)))),
      lenenc_again ok.affected (lenenc_bytes ok.insert_id ++ (bytes_of 2 ok.status ++ (bytes_of 2 ok.warnings ++ texts))) fits.affected,
      lenenc_again ok.insert_id (bytes_of 2 ok.status ++ (bytes_of 2 ok.warnings ++ texts)) fits.insert_id,
      number_again 2 ok.status (bytes_of 2 ok.warnings ++ texts) fits.status,
      number_again 2 ok.warnings texts fits.warnings,
      texts_again (track && states ok.status) ok.info ok.state fits.info fits.state none,
    ) refl
