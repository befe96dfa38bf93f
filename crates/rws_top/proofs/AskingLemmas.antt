-- What is answered to words.
use Rattle.std.proofs.Common.{◌≡◌, ℕ, false, List, Option, take, drop, refl, sym, ◌∙◌, Result, Err}
use Rattle.std.proofs.lemmas.List.{take-append-drop}
use Rattle.rws_board.specs.Put.{AppendsFront}
use Rattle.rws_config.specs.Settings.{Gives, settings_of}
use Rattle.rws_config.specs.declared.config.Config.{Config}
use Rattle.rws_config.specs.declared.fault.ConfigFault.{ConfigFault}
use Rattle.rws_config.specs.declared.fault.ConfigFault.TheVariants.{BadToml, UnknownKey, Missing, BadValue, TooManyServers, Twice, OutOfMemory}
use Rattle.rws_top.specs.Asking.{AnswersLine, RefusesSettings, settings_line}
use Rattle.rws_top.specs.Asking.Tells.{unwritten}
use Rattle.rws_top.specs.Asking.RefusesSettings.{named}
use Rattle.rws_top.specs.Words.{is_memory}

-- a put of the line failed
pub unput : (line seen : List ℕ) (told : ℕ) (taken taken' : Option (List ℕ)) (failed : Type 0) → seen ≡ line
    → AppendsFront taken taken' seen → failed → AnswersLine line told taken taken' failed 5
unput line seen told taken taken' failed is front f = record {
  printed = take front.0 seen;
  took = front.1;
  by_status = unwritten refl f (record {
    rest = drop front.0 seen;
    parted = sym is ∙ sym (take-append-drop front.0 seen);
  });
}

-- a fault that isn't want of memory is that of the text
fault_is : (fault : ConfigFault) (read : Result Config ConfigFault) → is_memory fault ≡ false → Gives (Err fault) read → read ≡ Err fault
fault_is BadToml read other gives = gives
fault_is (UnknownKey key) read other gives = gives
fault_is (Missing key) read other gives = gives
fault_is (BadValue key) read other gives = gives
fault_is (TooManyServers n) read other gives = gives
fault_is (Twice name) read other gives = gives
fault_is OutOfMemory read other gives = absurd cc

pub refused_so : (fault : ConfigFault) (line text : List ℕ) (taken taken' : Option (List ℕ)) (failed : Type 0) (status : ℕ)
    → is_memory fault ≡ false → line ≡ settings_line fault → AnswersLine line 3 taken taken' failed status
    → Gives (Err fault) (settings_of text) → RefusesSettings text taken taken' failed status
refused_so fault line text taken taken' failed status other is answers gives =
    named fault (fault_is fault (settings_of text) other gives) (rw is at answers)
