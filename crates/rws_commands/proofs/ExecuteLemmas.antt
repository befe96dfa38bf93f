-- What an execute is taken for, by what is read of it.
use Rattle.std.proofs.Common.{◌≡◌, ℕ, Bool, true, false, List, refl, sym, Option, Some, None, Result, Ok, Err}
use Rattle.std.specs.Prelude.{◌&&◌}
use Rattle.rws_class.specs.Classes.{class_of}
use Rattle.rws_class.specs.declared.class.Class.{Class}
use Rattle.rws_handles.specs.declared.fault.ExecuteFault.{ExecuteFault}
use Rattle.rws_handles.specs.PlainForm.{Plain, text_of}
use Rattle.rws_commands.specs.declared.judged.Judged.{Judged}
use Rattle.rws_commands.specs.declared.proxy_error.ProxyError.{ProxyError}
use Rattle.rws_commands.specs.declared.judged.Judged.TheVariants.{IsRefused}
use Rattle.rws_commands.specs.Commands.{as_executed}
use Rattle.rws_commands.specs.Judging.{changes, class_run, is_bad_execute, is_cursor_asked, is_forbidden, is_unknown_handle, judged_by, refusal_by, run_by}

-- what an execute is taken for that reads so
abbrev pub taken_of : Result Plain ExecuteFault → (handle : ℕ) → (payload : List ℕ) → (number : ℕ) → (read_only full : Bool) → Judged
taken_of read handle payload number read_only full =
    judged_by (refusal_by false false (is_unknown_handle read) (is_cursor_asked read) (is_bad_execute read) false (is_forbidden (class_run read))
    (read_only && changes full (class_run read))) (run_by handle read payload number)

-- why a command of this class is refused
abbrev pub refused_by : Class → (read_only full : Bool) → Option ProxyError
refused_by class read_only full = refusal_by false false false false false false (is_forbidden class) (read_only && changes full class)

module _ (read : Result Plain ExecuteFault) (text : List ℕ) (class : Class) (handle : ℕ) (payload : List ℕ) (number : ℕ) (read_only full : Bool)
    (is : text_of read ≡ Ok text) (classed : class ≡ as_executed (class_of text)) where
  classed_as : (its : Result Plain ExecuteFault) → text_of its ≡ Ok text → class_run its ≡ class
  classed_as (Ok plain) t = let same : plain.text ≡ text = cc in rw same (sym classed)
  classed_as (Err fault) t = absurd cc

  by_class : (its : Result Plain ExecuteFault) → text_of its ≡ Ok text → (found : Option ProxyError) → refused_by class read_only full ≡ found
      → taken_of its handle payload number read_only full ≡ judged_by found (run_by handle its payload number)
  by_class (Ok plain) t found f = let same = classed_as (Ok plain) t in rw (same, f) refl
  by_class (Err fault) t found f = absurd cc

  pub refused_execute : (error : ProxyError) → refused_by class read_only full ≡ Some error
      → IsRefused error ≡ taken_of read handle payload number read_only full
  refused_execute error f = sym (by_class read is (Some error) f)

  pub run_execute : refused_by class read_only full ≡ None → run_by handle read payload number ≡ taken_of read handle payload number read_only full
  run_execute f = sym (by_class read is None f)
