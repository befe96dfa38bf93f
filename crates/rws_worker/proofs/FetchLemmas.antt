-- What is fetched next.
use Rattle.std.proofs.Common.{◌≡◌, ℕ, false, List, [], ◌∷◌, ◌++◌, map, refl, sym, ap, subst, ◌∙◌, Option, Some, None, arith}
use Rattle.std.proofs.lemmas.List.{append-nil}
use Rattle.rws_board.specs.declared.interaction.Interaction.{Interaction}
use Rattle.rws_pool.specs.declared.words.Round.{Round}
use Rattle.rws_config.specs.declared.config.Config.{Config}
use Rattle.rws_record.specs.declared.output.Output.{Output}
use Rattle.rws_record.specs.declared.output.Output.TheVariants as outputs
use Rattle.rws_record.specs.Run.{Entry, events_of}
use Rattle.rws_worker.specs.declared.ahead.Ahead.TheVariants.{Nothing}
use Rattle.rws_worker.specs.declared.asker.Asker.{Asker}
use Rattle.rws_worker.specs.declared.asker.Asker.TheVariants.{Nobody, Asks, Awaits}
use Rattle.rws_worker.specs.declared.asker.Telling.TheVariants.{Told as AllTold}
use Rattle.rws_worker.proofs.StepsLemmas.{bare_has_none, bare_on}
use Rattle.rws_worker.specs.declared.step.Step.{Step}
use Rattle.rws_worker.specs.declared.step.Step.TheVariants.{Idle, Act, Call, Broken, Spent}
use Rattle.rws_worker.specs.declared.worker.Worker.{Worker}
use Rattle.rws_worker.specs.Standing.{Advances, EndsAt, Steps, StepsOn, WorkerStands, interactions_of}
use Rattle.rws_worker.specs.Stepping.{Fetches, Routes, from_of, all_done_for, asker_in, calls_by, done_ahead, endings, endings_by, farewell_ahead, is_awaiting, is_route, links_ahead, outs_ahead, routes_by, step_for, steps_ahead}

-- where no round is to be taken in, and all outputs are fetched
pub behind_outs : (worker : Worker) → worker.observed ≡ None → outs_ahead worker ≡ [] → steps_ahead worker ≡ routes_by worker.asker ++ endings worker
behind_outs worker uncalled none =
    ap (λ (o : Option Round). calls_by o ++ (map step_for (outs_ahead worker) ++ (routes_by worker.asker ++ endings worker))) uncalled
    ∙ ap (λ (outs : List Output). map step_for outs ++ (routes_by worker.asker ++ endings worker)) none

-- something that a session gave out
module _ (old mid new : Worker) (output : Output) (uncalled : old.observed ≡ None) (first : outs_ahead old ≡ output ∷ outs_ahead mid)
    (rest : mid ≡ record old { sessions = mid.sessions; ahead = mid.ahead }) (same : endings mid ≡ endings old)
    (released : new ≡ record mid { owners = new.owners }) (waits : is_awaiting old.asker ≡ false) where
  asker_same : new.asker ≡ old.asker
  asker_same = ap (λ (v : Worker). v.asker) released ∙ ap (λ (v : Worker). v.asker) rest

  behind_first : steps_ahead new ≡ map step_for (outs_ahead mid) ++ (routes_by old.asker ++ endings old)
  behind_first =
      ap steps_ahead released
      ∙ ap (λ (o : Option Round). calls_by o ++ (map step_for (outs_ahead mid) ++ (routes_by mid.asker ++ endings mid)))
      (ap (λ (v : Worker). v.observed) rest ∙ uncalled)
      ∙ ap (λ (a : Asker). map step_for (outs_ahead mid) ++ (routes_by a ++ endings mid)) (ap (λ (v : Worker). v.asker) rest)
      ∙ ap (λ (list : List Step). map step_for (outs_ahead mid) ++ (routes_by old.asker ++ list)) same

  first_is : steps_ahead old ≡ step_for output ∷ steps_ahead new
  first_is =
      ap (λ (o : Option Round). calls_by o ++ (map step_for (outs_ahead old) ++ (routes_by old.asker ++ endings old))) uncalled
      ∙ ap (λ (outs : List Output). map step_for outs ++ (routes_by old.asker ++ endings old)) first
      ∙ ap (λ (list : List Step). step_for output ∷ list) (sym behind_first)

  by_output : (its : Output) → steps_ahead old ≡ step_for its ∷ steps_ahead new → Fetches (Some (step_for its)) old new
  by_output (outputs.Act action) e = (e, ap is_awaiting asker_same ∙ waits)
  by_output (outputs.Record server gtid) e = (e, ap is_awaiting asker_same ∙ waits)

  pub out_fetches : (step : Step) → step ≡ step_for output → Fetches (Some step) old new
  out_fetches step is = subst (λ (its : Step). Fetches (Some its) old new) (sym is) (by_output output first_is)

asker_by : (asker : Asker) (step : Step) (others : List Step) → routes_by asker ≡ step ∷ others → asker_in asker ≡ None → ⊥
asker_by Nobody step others e none = cc
asker_by (Asks session) step others e none = cc
asker_by (Awaits session) step others e none = cc

-- a session that asks has no ending
no_endings : {config : Config} {worker : Worker} {run : List Entry} → WorkerStands config worker run → (asker : Asker) → worker.asker ≡ asker
    → (step : Step) → routes_by asker ≡ step ∷ [] → endings worker ≡ []
no_endings {worker = worker} w (Asks session) is step e =
    let a = w.asks session (ap asker_in is) in rw (a.unbroken, a.unclosed, a.linkless) refl
no_endings w Nobody is step e = absurd cc
no_endings w (Awaits session) is step e = absurd cc

no_endings_behind : (worker : Worker) → worker.ahead ≡ Nothing → worker.broken ≡ None → worker.closing ≡ None → endings worker ≡ []
no_endings_behind worker ahead broken closing = rw (ahead, broken, closing) refl

nothing_broken : {config : Config} {worker : Worker} {run : List Entry} → WorkerStands config worker run → (asker : Asker) → worker.asker ≡ asker
    → (step : Step) → routes_by asker ≡ step ∷ [] → (worker.broken ≡ None) × (worker.closing ≡ None)
nothing_broken w (Asks session) is step e = let a = w.asks session (ap asker_in is) in (a.unbroken, a.unclosed)
nothing_broken w Nobody is step e = absurd cc
nothing_broken w (Awaits session) is step e = absurd cc

pub route_fetches : {config : Config} {run : List Entry} (old mid new : Worker) → WorkerStands config mid run → old.observed ≡ None
    → outs_ahead old ≡ [] → outs_ahead mid ≡ [] → mid ≡ record old { sessions = mid.sessions; ahead = mid.ahead } → endings mid ≡ endings old
    → is_awaiting old.asker ≡ false → (step : Step) → Routes (Some step) mid new → Fetches (Some step) old new
route_fetches old mid new w uncalled none none_mid rest same waits (Call call) r =
    let route = r.0 in
    let asker : mid.asker ≡ old.asker = ap (λ (v : Worker). v.asker) rest in
    let ends_none : endings mid ≡ [] = no_endings w mid.asker refl (Call call) route in
    let quiet = nothing_broken w mid.asker refl (Call call) route in
    let changed = r.3 in
    let observed : new.observed ≡ None = ap (λ (v : Worker). v.observed) changed ∙ ap (λ (v : Worker). v.observed) rest ∙ uncalled in
    let later : steps_ahead new ≡ [] =
    behind_outs new observed (rw (ap (λ (v : Worker). v.ahead) changed) refl)
    ∙ ap (λ (list : List Step). list ++ endings new) (r.1)
    ∙ no_endings_behind new (ap (λ (v : Worker). v.ahead) changed) (ap (λ (v : Worker). v.broken) changed ∙ quiet.0)
    (ap (λ (v : Worker). v.closing) changed ∙ quiet.1) in (
      behind_outs old uncalled none ∙ ap (λ (a : Asker). routes_by a ++ endings old) (sym asker)
          ∙ ap (λ (list : List Step). list ++ endings old) route ∙ ap (λ (list : List Step). Call call ∷ list) (sym same ∙ ends_none ∙ sym later),
      r.2,
    )
route_fetches old mid new w uncalled none none_mid rest same waits Spent r =
    let asker : mid.asker ≡ old.asker = ap (λ (v : Worker). v.asker) rest in
    let observed : mid.observed ≡ None = ap (λ (v : Worker). v.observed) rest ∙ uncalled in (
      let e = ap (λ (v : Worker). v.last_link) r.1 in let n = r.0 in omega arith,
      behind_outs old uncalled none ∙ ap (λ (a : Asker). routes_by a ++ endings old) (sym asker)
          ∙ ap (λ (list : List Step). routes_by mid.asker ++ list) (sym same) ∙ sym (behind_outs mid observed none_mid)
          ∙ ap (λ (v : Worker). steps_ahead v) (sym r.1),
      ap (λ (v : Worker). is_awaiting v.asker) r.1 ∙ ap is_awaiting asker ∙ waits,
    )
route_fetches old mid new w uncalled none none_mid rest same waits Idle r = absurd r
route_fetches old mid new w uncalled none none_mid rest same waits (Act action) r = absurd r
route_fetches old mid new w uncalled none none_mid rest same waits (Broken session farewell) r = absurd r

-- an ending is an action, or tells the client
abbrev IsEnding : Step → Type 0
IsEnding (Act action) = Unit {0}
IsEnding (Broken session farewell) = Unit {0}
IsEnding _ = ⊥

is_ending : (broken closing : Option ℕ) (farewell links : List ℕ) (step : Step) (others : List Step)
    → endings_by broken closing farewell links ≡ step ∷ others → IsEnding step
is_ending (Some session) closing (byte ∷ bytes) links step others e =
    let same : Broken session (byte ∷ bytes) ≡ step = cc in subst IsEnding same tt
is_ending (Some session) (Some its) [] links step others e = let same : _ ≡ step = first_same e in subst IsEnding same tt
  where
    first_same : {a b : Step} {xs ys : List Step} → a ∷ xs ≡ b ∷ ys → a ≡ b
    first_same e = cc
is_ending (Some session) None [] [] step others e = absurd cc
is_ending (Some session) None [] (link ∷ links) step others e = let same : _ ≡ step = first_same e in subst IsEnding same tt
  where
    first_same : {a b : Step} {xs ys : List Step} → a ∷ xs ≡ b ∷ ys → a ≡ b
    first_same e = cc
is_ending None (Some its) farewell links step others e = let same : _ ≡ step = first_same e in subst IsEnding same tt
  where
    first_same : {a b : Step} {xs ys : List Step} → a ∷ xs ≡ b ∷ ys → a ≡ b
    first_same e = cc
is_ending None None farewell [] step others e = absurd cc
is_ending None None farewell (link ∷ links) step others e = let same : _ ≡ step = first_same e in subst IsEnding same tt
  where
    first_same : {a b : Step} {xs ys : List Step} → a ∷ xs ≡ b ∷ ys → a ≡ b
    first_same e = cc

by_ending : (old new : Worker) (step : Step) → IsEnding step → steps_ahead old ≡ step ∷ steps_ahead new → is_awaiting new.asker ≡ false → Fetches (Some step) old new
by_ending old new (Act action) its e waits = (e, waits)
by_ending old new (Broken session farewell) its e waits = (e, waits)
by_ending old new (Call call) its e waits = absurd its
by_ending old new Idle its e waits = absurd its
by_ending old new Spent its e waits = absurd its

pub ending_fetches : (old mid new : Worker) → old.observed ≡ None → outs_ahead old ≡ [] → mid.asker ≡ old.asker → endings mid ≡ endings old
    → routes_by mid.asker ≡ [] → is_awaiting old.asker ≡ false → (step : Step) → endings mid ≡ step ∷ endings new → outs_ahead new ≡ []
    → new.observed ≡ None → new.asker ≡ mid.asker → Fetches (Some step) old new
ending_fetches old mid new uncalled none asker same no_route waits step first none_now uncalled_now asker_now =
    by_ending old new step
    (is_ending mid.broken mid.closing (farewell_ahead mid.ahead) (links_ahead mid.ahead) step (endings new) first)
    (behind_outs old uncalled none ∙ ap (λ (a : Asker). routes_by a ++ endings old) (sym asker)
    ∙ ap (λ (list : List Step). list ++ endings old) no_route ∙ sym same ∙ first
    ∙ ap (λ (list : List Step). step ∷ (list ++ endings new)) (sym (ap routes_by asker_now ∙ no_route))
    ∙ ap (λ (list : List Step). step ∷ list) (sym (behind_outs new uncalled_now none_now)))
    (ap is_awaiting asker_now ∙ ap is_awaiting asker ∙ waits)

-- The run stays as it is

-- how much is done for a step
pub fetch_steps : {config : Config} {run : List Entry} (step : Step) (old new : Worker) → WorkerStands config new run
    → steps_ahead old ≡ step ∷ steps_ahead new → StepsOn config run step old new
fetch_steps {run = run} step old new w e = record {
  now = run;
  stands = w;
  heard = refl;
  did = λ done parted. parted ∙ ap (λ (list : List Step). done ++ all_done_for list) e;
}

pub fetch_goes : {config : Config} {run : List Entry} (step : Step) (old new : Worker) → WorkerStands config new run
    → Fetches (Some step) old new → StepsOn config run step old new × EndsAt step new × (is_awaiting new.asker ≡ is_route step)
fetch_goes Idle old new w f = absurd f
fetch_goes Spent old new w f = (
  record {
    now = _;
    stands = w;
    heard = refl;
    did = λ done parted. parted ∙ ap (λ (list : List Step). done ++ all_done_for list) f.1;
  },
  f.0,
  f.2,
)
fetch_goes (Act action) old new w f = (fetch_steps (Act action) old new w f.0, tt, f.1)
fetch_goes (Call call) old new w f = (fetch_steps (Call call) old new w f.0, tt, f.1)
fetch_goes (Broken session farewell) old new w f = (fetch_steps (Broken session farewell) old new w f.0, tt, f.1)

-- Nothing is left of what came so far

pub step_idle : {config : Config} {run : List Entry} (old mid new : Worker) → WorkerStands config new run → Fetches None old mid
    → new ≡ record mid { telling = AllTold } → Steps config run Idle old new
step_idle {run = run} old mid new w f same =
    let bare = f.1 in
    let its = bare_on mid new (ap (λ (v : Worker). v.ahead) same) (ap (λ (v : Worker). v.broken) same) (ap (λ (v : Worker). v.closing) same)
    (ap (λ (v : Worker). v.observed) same) (ap (λ (v : Worker). v.asker) same) bare in (
      record {
        now = run;
        stands = w;
        heard = refl;
        did = λ done parted. parted ∙ ap (λ (list : List Step). done ++ all_done_for list) f.0
            ∙ ap (λ (xs : List Interaction). done ++ xs) (sym (bare_has_none new its));
      },
      record { bare = its; all_told = ap (λ (v : Worker). from_of v.telling) same },
      ap is_awaiting its.unasked,
    )

-- a session was told more, and then a step was made
pub step_after : {config : Config} {run : List Entry} (old fetched mid new : Worker) (step : Step) → Fetches None old fetched
    → (a : Advances config (interactions_of run) (events_of run) mid) → Steps config a.now step mid new → Steps config run step old new
step_after {run = run} old fetched mid new step f a s = (
  record {
    now = s.0.now;
    stands = s.0.stands;
    heard = s.0.heard ∙ a.heard;
    did = λ done parted.
        s.0.did done (a.did ∙ ap (λ (xs : List Interaction). xs ++ done_ahead mid)
        (parted ∙ ap (λ (list : List Step). done ++ all_done_for list) f.0 ∙ append-nil done));
  },
  s.1,
  s.2,
)
