-- How much of the script of an input was read.
use Rattle.std.proofs.Common.{◌≡◌, ℕ, List, [], ◌∷◌, ◌++◌, refl, sym, ap, subst, ◌∙◌, Option, Some, None}
use Rattle.std.proofs.lemmas.List.{append-nil}
use Rattle.rws_board.specs.declared.event.Event.{Event}
use Rattle.rws_config.specs.declared.config.Config.{Config}
use Rattle.rws_trace.specs.Lines.{lines_of}
use Rattle.rws_trace.specs.Reader.{Ahead, Reads, ReadsOut, ReadsPart, fresh, script_at, stopped_at}
use Rattle.rws_trace.specs.Reader.Reads.{whole, all}
use Rattle.rws_trace.specs.Script.{Script, all_before, ended, script_of}
use Rattle.rws_trace.specs.ScriptBoards.{FirstEvents}
use Rattle.rws_trace.specs.declared.place.Place.{Place}
use Rattle.rws_trace.proofs.ReadsLemmas.{reads-script}
use Rattle.rws_top.specs.Trace.{IsScript, HeardAll, HasHeardAll, settings_of}
use Rattle.rws_top.specs.Trace.HeardAll.{of_whole_lines, of_all_lines}

nothing_behind : (xs ys : List ℕ) → xs ++ ys ≡ [] → ys ≡ []
nothing_behind [] ys empty = empty
nothing_behind (x ∷ xs) ys empty = cc

module _ (config : Config) where
  -- a script of the input that begins with these events
  pub record StartsWith (before : Option (List ℕ)) (events : List Event) : Type 0 where
    pub script : Script
    pub of_input : IsScript config before script
    pub ahead : List Event
    pub parted : script.events ≡ events ++ ahead

  pub starts_with : (before : Option (List ℕ)) (events : List Event) → FirstEvents (fresh (settings_of config)) before events
      → StartsWith before events
  starts_with None events first =
      record { script = record { events = events; bad_line = None }; of_input = tt; ahead = []; parted = sym (append-nil events) }
  starts_with (Some text) events first =
      record { script = all_before events first.0; of_input = sym first.1; ahead = first.0.events; parted = refl }

  -- before anything was read
  pub unread_yet : (before : Option (List ℕ)) → FirstEvents (fresh (settings_of config)) before []
  unread_yet None = tt
  unread_yet (Some text) = (script_of (settings_of config) text, refl)

  module _ (place : Place) (events : List Event) (held : List ℕ) where
    abbrev old : Place
    old = (fresh (settings_of config)).place

    pub reads_first : (before left : Option (List ℕ)) → Ahead (Reads old place events) [] before held left
        → FirstEvents (fresh (settings_of config)) before events
    reads_first None left reads = tt
    reads_first (Some text) None reads = absurd reads
    reads_first (Some text) (Some rest) reads =
        (script_at place (lines_of (held ++ rest)), reads-script old place events text (held ++ rest) reads)

    pub part_first : (before left : Option (List ℕ)) → Ahead (ReadsPart old place events) [] before held left
        → FirstEvents (fresh (settings_of config)) before events
    part_first None left reads = tt
    part_first (Some text) None reads = absurd reads
    part_first (Some text) (Some rest) reads =
        (script_at place (lines_of (reads.part ++ (held ++ rest))), reads-script old place events text (reads.part ++ (held ++ rest)) reads.reads)

    -- the script is over behind these events
    pub out_script : (before left : Option (List ℕ)) → Ahead (ReadsOut old place events) [] before held left
        → IsScript config before (record { events = events; bad_line = place.bad_line })
    out_script None left out = tt
    out_script (Some text) None out = absurd out
    out_script (Some text) (Some rest) out =
        ap (λ (xs : List Event). let s : Script = record { events = xs; bad_line = place.bad_line } in s) (sym (append-nil events)) ∙ sym out.0

    -- the script of what was read, where it may go on
    going_on : place.bad_line ≡ None → all_before events (script_at place []) ≡ record { events = events; bad_line = None }
    going_on going =
        ap (λ (bad : Option ℕ). all_before events (stopped_at bad (ended None))) going
        ∙ ap (λ (xs : List Event). let s : Script = record { events = xs; bad_line = None } in s) (append-nil events)

    by_reads : (text rest : List ℕ) → held ≡ [] → (cut : ReadsPart old place events text (held ++ rest))
        → Reads old place events text (cut.part ++ (held ++ rest)) → HeardAll config text rest events
    by_reads text rest drained cut (whole read full is says) =
        of_whole_lines read cut.part full cut.feedless (subst (λ (bytes : List ℕ). text ≡ read ++ (cut.part ++ (bytes ++ rest))) drained is)
        (ap (script_at old) (sym (append-nil (lines_of read))) ∙ says [] ∙ going_on cut.going)
    by_reads text rest drained cut (all none says) =
        of_all_lines (nothing_behind held rest (nothing_behind cut.part (held ++ rest) none)) (says ∙ going_on cut.going)

    pub heard_all : (before left : Option (List ℕ)) → held ≡ [] → Ahead (ReadsPart old place events) [] before held left
        → HasHeardAll config before left events
    heard_all None left drained cut = tt
    heard_all (Some text) None drained cut = absurd cut
    heard_all (Some text) (Some rest) drained cut = by_reads text rest drained cut cut.reads
