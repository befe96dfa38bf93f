-- An error that was decoded is decoded again from what `encode` writes.
use Rattle.rws_msgs.specs.declared.err_msg.TheConstants.{STATE_MARK}
use Rattle.std.proofs.Common.{◌≡◌, ◌∷◌, ◌++◌, Ok, refl}
use Rattle.rws_wire.specs.Numbers.{bytes_of}
use Rattle.rws_msgs.specs.declared.err_msg.ErrMsg.{ErrMsg}
use Rattle.rws_msgs.specs.ErrLayout.{ErrFits, err_at, err_bytes}
use Rattle.rws_msgs.proofs.FieldLemmas.{bytes_again, fixed_again, number_again}

pub err_again : (err : ErrMsg) → ErrFits err → err_at (err_bytes err) ≡ Ok err
unfolding err_at err_bytes
err_again err fits =
    rw (
      fixed_again 0xFF (bytes_of 2 err.code ++ STATE_MARK ∷ (err.state ++ err.text)),
      number_again 2 err.code (STATE_MARK ∷ (err.state ++ err.text)) fits.code,
      fixed_again STATE_MARK (err.state ++ err.text),
      bytes_again err.state err.text 5 fits.state,
    ) refl
