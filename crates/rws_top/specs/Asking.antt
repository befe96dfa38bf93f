-- What the words of the command line ask for, and what is answered.
use Rattle.std.specs.Prelude.{◌≡◌, ℕ, List, [], ◌∷◌, ◌++◌, codes, bytes_eq, Option, Err, Ok, if◌then◌else◌}
use Rattle.std.specs.Io.KnownBytes.{Appends}
use Rattle.rws_board.specs.Files.{Holds}
use Rattle.rws_config.specs.BuiltIn.{built_in}
use Rattle.rws_config.specs.Faults.{fault_text}
use Rattle.rws_config.specs.Settings.{settings_of}
use Rattle.rws_config.specs.declared.config.Config.{Config}
use Rattle.rws_config.specs.declared.fault.ConfigFault.{ConfigFault}
use Rattle.rws_trace.specs.Printing.{usage_line}
use Rattle.rws_top.specs.Trace.{AnswersTrace, IsFront}

pub data Asks : Type 0 where
  -- a trace with the built-in settings
  BuiltInTrace : Asks
  -- a trace with the settings of the file at this path
  FileTrace : (path : List ℕ) → Asks
  -- how the program is called
  Help : Asks
  -- nothing that there is
  Nothing : Asks

abbrev pub trace_with : List ℕ → Asks
trace_with settings = if bytes_eq settings (codes "-") then BuiltInTrace else FileTrace settings

abbrev pub asks : List (List ℕ) → Asks
asks (word ∷ []) = if bytes_eq word (codes "--help") then Help else Nothing
asks (command ∷ settings ∷ []) = if bytes_eq command (codes "trace") then trace_with settings else Nothing
asks words = Nothing

-- One line is printed, with this status, or a front of it where the output failed.
pub data Tells (line : List ℕ) (told : ℕ) (printed : List ℕ) (output_failed : Type 0) (status : ℕ) : Type 0 where
  told_whole : status ≡ told → printed ≡ line → Tells line told printed output_failed status
  unwritten : status ≡ 5 → output_failed → IsFront printed line → Tells line told printed output_failed status

pub record AnswersLine (line : List ℕ) (told : ℕ) (taken taken' : Option (List ℕ)) (output_failed : Type 0) (status : ℕ) : Type 0 where
  pub printed : List ℕ
  pub took : Appends taken taken' printed
  pub by_status : Tells line told printed output_failed status

-- the line that says why settings are refused
abbrev pub settings_line : ConfigFault → List ℕ
settings_line fault = codes "settings: " ++ (fault_text fault ++ codes "\n")

-- The settings of a text are refused, and their fault is named, unless memory is wanting: then nothing is printed.
pub data RefusesSettings (text : List ℕ) (taken taken' : Option (List ℕ)) (output_failed : Type 0) (status : ℕ) : Type 0 where
  named : (fault : ConfigFault) → settings_of text ≡ Err fault → AnswersLine (settings_line fault) 3 taken taken' output_failed status
      → RefusesSettings text taken taken' output_failed status
  starved : status ≡ 9 → taken' ≡ taken → RefusesSettings text taken taken' output_failed status

-- A trace with the settings of a file. `files` says what paths hold, where that is known; the other arguments are those of
-- `AnswersTrace`, and `files_failed` says that the count of faults of the files rose. Of the input nothing is read before
-- the settings are.
pub data AnswersFile (path : List ℕ) (files : Option (List ℕ → Option (List ℕ))) (before left taken taken' : Option (List ℕ)) (input_failed files_failed output_failed : Type 0) (status : ℕ) : Type 0 where
  unread : status ≡ 4 → files_failed → left ≡ before → taken' ≡ taken
      → AnswersFile path files before left taken taken' input_failed files_failed output_failed status
  starved : status ≡ 9 → left ≡ before → taken' ≡ taken
      → AnswersFile path files before left taken taken' input_failed files_failed output_failed status
  refused : (text : List ℕ) → Holds files path text → left ≡ before → RefusesSettings text taken taken' output_failed status
      → AnswersFile path files before left taken taken' input_failed files_failed output_failed status
  traced : (text : List ℕ) (config : Config) → Holds files path text → settings_of text ≡ Ok config
      → AnswersTrace config before left taken taken' input_failed output_failed status
      → AnswersFile path files before left taken taken' input_failed files_failed output_failed status

-- what is answered to these words
abbrev pub Answers : Asks → Option (List ℕ → Option (List ℕ)) → (before left taken taken' : Option (List ℕ))
    → (input_failed files_failed output_failed : Type 0) → (status : ℕ) → Type 0
Answers BuiltInTrace files before left taken taken' input_failed files_failed output_failed status =
    AnswersTrace built_in before left taken taken' input_failed output_failed status
Answers (FileTrace path) files before left taken taken' input_failed files_failed output_failed status =
    AnswersFile path files before left taken taken' input_failed files_failed output_failed status
Answers Help files before left taken taken' input_failed files_failed output_failed status =
    AnswersLine usage_line 0 taken taken' output_failed status
Answers Nothing files before left taken taken' input_failed files_failed output_failed status =
    AnswersLine usage_line 2 taken taken' output_failed status
