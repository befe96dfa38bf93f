-- How reading goes on from call to call.
use Rattle.std.proofs.Common.{◌≡◌, ℕ, ◌++◌, List, [], ◌∷◌, Option, Some, None, Result, Ok, Err, IfOk, inl, inr, refl, sym, ◌∙◌, ap, subst, append_assoc}
use Rattle.rws_board.specs.declared.event.Event.{Event}
use Rattle.rws_board.specs.declared.event.Event.TheVariants.{Accept, Begin, ClientBytes, ClientGone, LinkReady, LinkBytes, LinkGone, Clock, Observed, End}
use Rattle.rws_trace.specs.Lines.{lines_of, Begins, IsFeedless}
use Rattle.rws_trace.specs.Lines.Begins.{fed, last}
use Rattle.rws_trace.specs.Reader.{Ahead, IsFound, IsNext, IsNextIf, Reads, ReadsOut, ReadsPart, Tells, TellsIf, script_at}
use Rattle.rws_trace.specs.Reader.Reads.{whole, all}
use Rattle.rws_trace.specs.Script.{Script, all_before, ended}
use Rattle.rws_trace.specs.declared.found.Found.{Found}
use Rattle.rws_trace.specs.declared.found.Found.TheVariants.{Line}
use Rattle.rws_trace.specs.declared.place.Place.{Place}
use Rattle.rws_trace.proofs.AheadLemmas.{ahead-then}
use Rattle.rws_trace.proofs.Feeds.{lines_of-feed, lines_of-last}
use Rattle.rws_trace.proofs.WholeLines.{lines_of-whole, whole-append}

pub all_before-then : (xs ys : List Event) (script : Script) → all_before xs (all_before ys script) ≡ all_before (xs ++ ys) script
all_before-then xs ys script =
    ap (λ (events : List Event). let s : Script = record { events = events; bad_line = script.bad_line } in s) (sym (append_assoc xs ys script.events))

-- nothing was read
pub reads-none : (place : Place) (before : List ℕ) → Reads place place [] before before
reads-none place before = whole [] (inl refl) refl (λ lines. refl)

-- one reading after another
pub reads-then : (a b c : Place) (xs ys : List Event) (before middle rest : List ℕ) → Reads a b xs before middle → Reads b c ys middle rest → Reads a c (xs ++ ys) before rest
reads-then a b c xs ys before middle rest (whole read full is says) (whole read' full' is' says') =
    whole (read ++ read') (whole-append read read' full full')
    (is ∙ ap (λ bytes. read ++ bytes) is' ∙ sym (append_assoc read read' rest))
    (λ lines. ap (λ ls. script_at a (ls ++ lines)) (lines_of-whole read read' full) ∙ ap (script_at a) (append_assoc (lines_of read) (lines_of read') lines)
    ∙ says (lines_of read' ++ lines) ∙ ap (all_before xs) (says' lines) ∙ all_before-then xs ys (script_at c lines))
reads-then a b c xs ys before middle rest (whole read full is says) (all none says') =
    all none (ap (λ bytes. script_at a (lines_of bytes)) is ∙ ap (script_at a) (lines_of-whole read middle full)
    ∙ says (lines_of middle) ∙ ap (all_before xs) says' ∙ all_before-then xs ys (script_at c []))
reads-then a b c xs ys before middle rest (all none says) (whole read full is says') =
    let empty : read ++ rest ≡ [] = sym is ∙ none in
    all (append-nil_right read rest empty)
    (says ∙ ap (all_before xs) (ap (λ bytes. script_at b (lines_of bytes ++ [])) (sym (append-nil_left read rest empty)) ∙ says' []) ∙ all_before-then xs ys (script_at c []))
  where
    append-nil_left : (xs ys : List ℕ) → xs ++ ys ≡ [] → xs ≡ []
    append-nil_left [] ys empty = refl
    append-nil_left (x ∷ xs) ys empty = cc

    append-nil_right : (xs ys : List ℕ) → xs ++ ys ≡ [] → ys ≡ []
    append-nil_right [] ys empty = empty
    append-nil_right (x ∷ xs) ys empty = cc
reads-then a b c xs ys before middle rest (all none says) (all none' says') =
    all none' (says ∙ ap (all_before xs) (ap (λ bytes. script_at b (lines_of bytes)) (sym none) ∙ says') ∙ all_before-then xs ys (script_at c []))

-- a reading, and then one up to the middle of a line
pub reads_part-then : (a b c : Place) (xs ys : List Event) (before middle rest : List ℕ) → Reads a b xs before middle → ReadsPart b c ys middle rest → ReadsPart a c (xs ++ ys) before rest
reads_part-then a b c xs ys before middle rest reads cut =
    record { part = cut.part; feedless = cut.feedless; going = cut.going; reads = reads-then a b c xs ys before middle (cut.part ++ rest) reads cut.reads }

-- what was told comes first in the script
pub reads-script : (old new : Place) (events : List Event) (before rest : List ℕ) → Reads old new events before rest
    → script_at old (lines_of before) ≡ all_before events (script_at new (lines_of rest))
reads-script old new events before rest (whole read full is says) =
    ap (λ bytes. script_at old (lines_of bytes)) is ∙ ap (script_at old) (lines_of-whole read rest full) ∙ says (lines_of rest)
reads-script old new events before rest (all none says) =
    says ∙ ap (λ bytes. all_before events (script_at new (lines_of bytes))) (sym none)

-- one line was read
reads-line : (old new : Place) (events : List Event) (line before rest : List ℕ) → Begins line before rest
    → ((lines : List (List ℕ)) → script_at old (line ∷ lines) ≡ all_before events (script_at new lines)) → Reads old new events before rest
reads-line old new events line before rest (fed free is) says =
    let one : lines_of (line ++ 10 ∷ []) ≡ line ∷ [] = lines_of-feed line [] free in
    whole (line ++ 10 ∷ []) (inr (line, refl)) (is ∙ sym (append_assoc line (10 ∷ []) rest))
    (λ lines. ap (λ ls. script_at old (ls ++ lines)) one ∙ says lines)
reads-line old new events line before rest (last free some is none) says =
    all none (ap (λ bytes. script_at old (lines_of bytes)) is ∙ ap (script_at old) (lines_of-last line free some) ∙ says [])

begins-lines : (line before rest : List ℕ) → Begins line before rest → lines_of before ≡ line ∷ lines_of rest
begins-lines line before rest (fed free is) = ap lines_of is ∙ lines_of-feed line rest free
begins-lines line before rest (last free some is none) =
    ap lines_of is ∙ lines_of-last line free some ∙ ap (λ bytes. line ∷ lines_of bytes) (sym none)

-- a line that was read, and what it says
pub tells-line : (told : Option Event) (old new : Place) (line before rest : List ℕ) → Begins line before rest
    → ((lines : List (List ℕ)) → IsNextIf told new.bad_line (script_at old (line ∷ lines)) (script_at new lines)) → TellsIf told old new before rest
tells-line None old new line before rest first says = (reads-line old new [] line before rest first (λ lines. (says lines).0), (says []).1)
tells-line (Some End) old new line before rest first says =
    (ap (script_at old) (begins-lines line before rest first) ∙ (says (lines_of rest)).0, (says (lines_of rest)).1)
tells-line (Some (Accept session scramble)) old new line before rest first says = (reads-line old new (Accept session scramble ∷ []) line before rest first (λ lines. (says lines).0), (says []).1)
tells-line (Some (Begin session server)) old new line before rest first says = (reads-line old new (Begin session server ∷ []) line before rest first (λ lines. (says lines).0), (says []).1)
tells-line (Some (ClientBytes session bytes)) old new line before rest first says = (reads-line old new (ClientBytes session bytes ∷ []) line before rest first (λ lines. (says lines).0), (says []).1)
tells-line (Some (ClientGone session)) old new line before rest first says = (reads-line old new (ClientGone session ∷ []) line before rest first (λ lines. (says lines).0), (says []).1)
tells-line (Some (LinkReady link)) old new line before rest first says = (reads-line old new (LinkReady link ∷ []) line before rest first (λ lines. (says lines).0), (says []).1)
tells-line (Some (LinkBytes link bytes)) old new line before rest first says = (reads-line old new (LinkBytes link bytes ∷ []) line before rest first (λ lines. (says lines).0), (says []).1)
tells-line (Some (LinkGone link)) old new line before rest first says = (reads-line old new (LinkGone link ∷ []) line before rest first (λ lines. (says lines).0), (says []).1)
tells-line (Some (Clock now)) old new line before rest first says = (reads-line old new (Clock now ∷ []) line before rest first (λ lines. (says lines).0), (says []).1)
tells-line (Some (Observed round)) old new line before rest first says = (reads-line old new (Observed round ∷ []) line before rest first (λ lines. (says lines).0), (says []).1)

-- lines that say nothing, and then an event or the end
tells-then : (event : Event) (a b c : Place) (before middle rest : List ℕ) → Reads a b [] before middle → Tells event b c middle rest → Tells event a c before rest
tells-then End a b c before middle rest reads tells = (reads-script a b [] before middle reads ∙ tells.0, tells.1)
tells-then (Accept session scramble) a b c before middle rest reads tells = (reads-then a b c [] (Accept session scramble ∷ []) before middle rest reads tells.0, tells.1)
tells-then (Begin session server) a b c before middle rest reads tells = (reads-then a b c [] (Begin session server ∷ []) before middle rest reads tells.0, tells.1)
tells-then (ClientBytes session bytes) a b c before middle rest reads tells = (reads-then a b c [] (ClientBytes session bytes ∷ []) before middle rest reads tells.0, tells.1)
tells-then (ClientGone session) a b c before middle rest reads tells = (reads-then a b c [] (ClientGone session ∷ []) before middle rest reads tells.0, tells.1)
tells-then (LinkReady link) a b c before middle rest reads tells = (reads-then a b c [] (LinkReady link ∷ []) before middle rest reads tells.0, tells.1)
tells-then (LinkBytes link bytes) a b c before middle rest reads tells = (reads-then a b c [] (LinkBytes link bytes ∷ []) before middle rest reads tells.0, tells.1)
tells-then (LinkGone link) a b c before middle rest reads tells = (reads-then a b c [] (LinkGone link ∷ []) before middle rest reads tells.0, tells.1)
tells-then (Clock now) a b c before middle rest reads tells = (reads-then a b c [] (Clock now ∷ []) before middle rest reads tells.0, tells.1)
tells-then (Observed round) a b c before middle rest reads tells = (reads-then a b c [] (Observed round ∷ []) before middle rest reads tells.0, tells.1)

-- the front of a line
abbrev HasPart : List ℕ → List ℕ → Type 0
HasPart before rest = (part : List ℕ) × IsFeedless part × (before ≡ part ++ rest)

reads-cut : (a b c : Place) (before middle rest : List ℕ) → c ≡ b → c.bad_line ≡ None → Reads a b [] before middle → HasPart middle rest → ReadsPart a c [] before rest
reads-cut a b c before middle rest same going reads cut =
    record {
      part = cut.0;
      feedless = cut.1;
      going = going;
      reads = subst (λ (bytes : List ℕ). Reads a c [] before bytes) cut.2 (subst (λ (place : Place). Reads a place [] before middle) (sym same) reads);
    }

module _ (h0 h1 h2 : List ℕ) (l0 l1 l2 : Option (List ℕ)) (a b c : Place) (silent : Ahead (Reads a b []) h0 l0 h1 l1) where
  pub ahead-silent : Ahead (TellsIf None b c) h1 l1 h2 l2 → Ahead (Reads a c []) h0 l0 h2 l2
  ahead-silent told =
      ahead-then (Reads a b []) (TellsIf None b c) (Reads a c []) (λ x y z reads more. reads-then a b c [] [] x y z reads more.0) h0 h1 h2 l0 l1 l2 silent told

  pub ahead-tells : (event : Event) → Ahead (TellsIf (Some event) b c) h1 l1 h2 l2 → Ahead (Tells event a c) h0 l0 h2 l2
  ahead-tells event told =
      ahead-then (Reads a b []) (Tells event b c) (Tells event a c) (tells-then event a b c) h0 h1 h2 l0 l1 l2 silent told

  pub ahead-cut : c ≡ b → c.bad_line ≡ None → Ahead HasPart h1 l1 h2 l2 → Ahead (ReadsPart a c []) h0 l0 h2 l2
  ahead-cut same going cut =
      ahead-then (Reads a b []) HasPart (ReadsPart a c []) (λ x y z. reads-cut a b c x y z same going) h0 h1 h2 l0 l1 l2 silent cut

-- at the start
pub ahead-none : (place : Place) (held : List ℕ) (left : Option (List ℕ)) → Ahead (Reads place place []) held left held left
ahead-none place held None = tt
ahead-none place held (Some left) = reads-none place (held ++ left)

-- what a line says, where it was read
pub passes-line : {E : Type 0} (result : Result (Option Event) E) (found : Found) (old new : Place) (line : List ℕ) → found ≡ Line
    → IfOk result (λ told. (lines : List (List ℕ)) → IsNextIf told new.bad_line (script_at old (line ∷ lines)) (script_at new lines))
    → IfOk result (λ told. (before rest : List ℕ) → IsFound found line before rest → TellsIf told old new before rest)
passes-line (Ok told) found old new line is says =
    λ before rest first. tells-line told old new line before rest (subst (λ (f : Found). IsFound f line before rest) is first) says
passes-line (Err e) found old new line is says = tt

-- the event that was told comes next in the script
pub tells-next : (event : Event) (old new : Place) (before rest : List ℕ) → Tells event old new before rest
    → IsNext event new.bad_line (script_at old (lines_of before)) (script_at new (lines_of rest))
tells-next End old new before rest tells = tells
tells-next (Accept session scramble) old new before rest tells = (reads-script old new (Accept session scramble ∷ []) before rest tells.0, tells.1)
tells-next (Begin session server) old new before rest tells = (reads-script old new (Begin session server ∷ []) before rest tells.0, tells.1)
tells-next (ClientBytes session bytes) old new before rest tells = (reads-script old new (ClientBytes session bytes ∷ []) before rest tells.0, tells.1)
tells-next (ClientGone session) old new before rest tells = (reads-script old new (ClientGone session ∷ []) before rest tells.0, tells.1)
tells-next (LinkReady link) old new before rest tells = (reads-script old new (LinkReady link ∷ []) before rest tells.0, tells.1)
tells-next (LinkBytes link bytes) old new before rest tells = (reads-script old new (LinkBytes link bytes ∷ []) before rest tells.0, tells.1)
tells-next (LinkGone link) old new before rest tells = (reads-script old new (LinkGone link ∷ []) before rest tells.0, tells.1)
tells-next (Clock now) old new before rest tells = (reads-script old new (Clock now ∷ []) before rest tells.0, tells.1)
tells-next (Observed round) old new before rest tells = (reads-script old new (Observed round ∷ []) before rest tells.0, tells.1)

-- a reading, and then the end
pub reads_out-then : (a b c : Place) (xs ys : List Event) (before middle rest : List ℕ) → Reads a b xs before middle → ReadsOut b c ys middle rest → ReadsOut a c (xs ++ ys) before rest
reads_out-then a b c xs ys before middle rest reads out =
    (reads-script a b xs before middle reads ∙ ap (all_before xs) out.0 ∙ all_before-then xs ys (ended c.bad_line), out.1)
