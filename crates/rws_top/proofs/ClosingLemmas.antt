-- The closing line.
use Rattle.std.proofs.Common.{◌≡◌, ℕ, inl, List, ◌++◌, length, take, drop, refl, sym, ap, subst, ◌∙◌, Option, Some, None, append_assoc}
use Rattle.std.proofs.KnownBytes.{Appends-trans}
use Rattle.std.proofs.lemmas.List.{take-append-drop}
use Rattle.std.specs.Io.KnownBytes.{IsAtEnd}
use Rattle.rws_config.specs.declared.config.Config.{Config}
use Rattle.rws_record.specs.Run.{done_in}
use Rattle.rws_trace.specs.Printing.{text_of}
use Rattle.rws_top.specs.Trace.{AnswersTrace, IsCut, IsWhole, Traces, closing}
use Rattle.rws_top.specs.Trace.Traces.{finished, stopped, unwritten, out_of_memory}
use Rattle.rws_top.specs.Tracing.{IsClosing, PutsClosing, closing_status}
use Rattle.rws_top.specs.Tracing.PutsClosing.{put, unput, starved}

module _ (config : Config) (before left taken taken' taken'' : Option (List ℕ)) (events : ℕ) (bad : Option ℕ)
    (input_failed put_failed output_failed : Type 0) (rose : put_failed → output_failed) (c : IsClosing config before left taken taken' events bad) where
  abbrev text : List ℕ
  text = text_of (done_in c.run)

  whole : IsWhole config c.script (text ++ closing events bad)
  whole = record {
    run = c.run;
    over = c.over;
    few = c.few;
    printed = ap (λ (count : ℕ). text ++ closing count bad) c.counted
        ∙ ap (λ (line : Option ℕ). text ++ closing (length c.script.events) line) (sym c.stops);
  }

  is_cut : (count : ℕ) → IsCut config c.script (text ++ take count (closing events bad))
  is_cut count = record {
    whole = text ++ closing events bad;
    of_script = inl whole;
    front = record {
      rest = drop count (closing events bad);
      parted = ap (λ (bytes : List ℕ). text ++ bytes) (sym (take-append-drop count (closing events bad)))
          ∙ sym (append_assoc text (take count (closing events bad)) (drop count (closing events bad)));
    };
  }

  by_bad_line : (line : Option ℕ) → c.script.bad_line ≡ line → (line ≡ None → IsAtEnd left)
      → Traces config c.script (text ++ closing events bad) before left input_failed output_failed (closing_status line)
  by_bad_line None is at_end = finished refl is (at_end refl) whole
  by_bad_line (Some line) is at_end = stopped line refl is whole

  pub closed : {status : ℕ} → PutsClosing taken' taken'' events bad put_failed status
      → AnswersTrace config before left taken taken'' input_failed output_failed status
  closed {status} (put is all) = record {
    script = c.script;
    printed = text ++ closing events bad;
    of_input = c.of_input;
    took = Appends-trans taken taken' taken'' text (closing events bad) c.put all;
    by_status = subst (λ (s : ℕ). Traces config c.script (text ++ closing events bad) before left input_failed output_failed s) (sym is)
        (by_bad_line bad c.stops c.at_end);
  }
  closed (unput is failed front) = record {
    script = c.script;
    printed = text ++ take front.0 (closing events bad);
    of_input = c.of_input;
    took = Appends-trans taken taken' taken'' text (take front.0 (closing events bad)) c.put front.1;
    by_status = unwritten is (rose failed) (is_cut front.0);
  }
  closed (starved is front) = record {
    script = c.script;
    printed = text ++ take front.0 (closing events bad);
    of_input = c.of_input;
    took = Appends-trans taken taken' taken'' text (take front.0 (closing events bad)) c.put front.1;
    by_status = out_of_memory is (is_cut front.0);
  }
