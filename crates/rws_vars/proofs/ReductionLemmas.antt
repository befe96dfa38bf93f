-- Reductions go on with later commands, and compose where no reading command is missing.
use Rattle.std.proofs.Common.{◌≡◌, ◌⊎◌, inl, inr, ℕ, Bool, true, false, List, [], ◌∷◌, ◌++◌, refl, sym}
use Rattle.std.proofs.lemmas.Bool.{false≢true}
use Rattle.rws_vars.specs.Commands.{Command, Uses, Prepares, sets, reads}
use Rattle.rws_vars.specs.Reductions.{Entry, is_closed_prepare, sets_all, IsOverwritten, MayMiss, IsReduction, nothing, kept, missing, WholeListsAreReductions, ReductionsGoOn, IsQuiet, MissesClosed, ReductionsCompose, ReductionsMayNotCompose}

pub whole_list : WholeListsAreReductions
whole_list [] = nothing
whole_list (entry ∷ entries) = kept (whole_list entries)

-- what may be missing may be missing, whatever comes behind
overwritten_on : (c : Command) (later more : List Entry) → IsOverwritten c later → IsOverwritten c (later ++ more)
overwritten_on c [] more over = absurd over
overwritten_on c (entry ∷ later) more (quiet, inl all) = (quiet, inl all)
overwritten_on c (entry ∷ later) more (quiet, inr over) = (quiet, inr (overwritten_on c later more over))

may_on : (entry : Entry) (later more : List Entry) → MayMiss entry later → MayMiss entry (later ++ more)
may_on entry later more (inl closed) = inl closed
may_on entry later more (inr over) = inr (overwritten_on entry.command later more over)

goes_on : {reduced whole : List Entry} (more : List Entry) → IsReduction reduced whole → IsReduction (reduced ++ more) (whole ++ more)
goes_on more nothing = whole_list more
goes_on more (kept reduction) = kept (goes_on more reduction)
goes_on more (missing {entry} {reduced} {whole} may reduction) = missing (may_on entry whole more may) (goes_on more reduction)

pub go_on : ReductionsGoOn
go_on reduced whole more reduction = goes_on more reduction

-- what is overwritten in a list from which nothing that reads is missing is so in the whole list
overwritten_whole : (c : Command) {reduced whole : List Entry} (reduction : IsReduction reduced whole) → IsQuiet reduction → IsOverwritten c reduced → IsOverwritten c whole
overwritten_whole c nothing quiet over = over
overwritten_whole c (kept reduction) quiet (silent, inl all) = (silent, inl all)
overwritten_whole c (kept reduction) quiet (silent, inr over) = (silent, inr (overwritten_whole c reduction quiet over))
overwritten_whole c (missing may reduction) (silent, quiet) over = (silent, inr (overwritten_whole c reduction quiet over))

may_whole : (entry : Entry) {reduced whole : List Entry} (reduction : IsReduction reduced whole) → IsQuiet reduction → MayMiss entry reduced → MayMiss entry whole
may_whole entry reduction quiet (inl closed) = inl closed
may_whole entry reduction quiet (inr over) = inr (overwritten_whole entry.command reduction quiet over)

composed_quiet : {least reduced whole : List Entry} (first : IsReduction reduced whole) → IsQuiet first → IsReduction least reduced → IsReduction least whole
composed_quiet nothing quiet second = second
composed_quiet (missing may first) (silent, quiet) second = missing may (composed_quiet first quiet second)
composed_quiet (kept first) quiet (kept second) = kept (composed_quiet first quiet second)
composed_quiet (kept {entry} first) quiet (missing may second) = missing (may_whole entry first quiet may) (composed_quiet first quiet second)

composed_closed : {least reduced whole : List Entry} → IsReduction reduced whole → (second : IsReduction least reduced) → MissesClosed second → IsReduction least whole
composed_closed nothing second closed = second
composed_closed (missing may first) second closed = missing may (composed_closed first second closed)
composed_closed (kept first) (kept second) closed = kept (composed_closed first second closed)
composed_closed (kept first) (missing may second) (is_closed, closed) = missing (inl is_closed) (composed_closed first second closed)

pub compose : ReductionsCompose
compose least reduced whole first second (inl quiet) = composed_quiet first quiet second
compose least reduced whole first second (inr closed) = composed_closed first second closed

-- A closed prepare stands between two commands that set the database: without it, the first of these is overwritten.
abbrev before : Entry
before = record { command = Uses (97 ∷ []); closed = false }

abbrev between : Entry
between = record { command = Prepares 1 []; closed = true }

abbrev behind : Entry
behind = record { command = Uses (98 ∷ []); closed = false }

no_composed : IsReduction (behind ∷ []) (before ∷ between ∷ behind ∷ []) → ⊥
no_composed (missing (inl closed) reduction) = false≢true closed
no_composed (missing (inr (silent, over)) reduction) = false≢true (sym silent)

pub may_not_compose : ReductionsMayNotCompose
may_not_compose = record {
  least = behind ∷ [];
  reduced = before ∷ behind ∷ [];
  whole = before ∷ between ∷ behind ∷ [];
  first = kept (missing (inl refl) (kept nothing));
  second = missing (inr (refl, inl refl)) (kept nothing);
  no_reduction = no_composed;
}
