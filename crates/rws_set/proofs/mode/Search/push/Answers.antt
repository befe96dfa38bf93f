use Rattle.std.proofs.Common.{◌≡◌, ℕ, Bool, ◌||◌, List, [], ◌∷◌, ◌++◌, drop, length, refl, ap, sym, ◌∙◌, arith}
use Rattle.rws_set.specs.Modes.{mode_words}
use Rattle.rws_set.specs.Modes.{begins_mode, holds_mode}
use Rattle.rws_set.proofs.ModeLemmas.{AreShort, holds_mode-shift, or-assoc}
use Rattle.rws_set.proofs.mode.Search.push.Goals as goal

-- the longest word has ten bytes
all_short : (recent : List ℕ) → length recent ≡ 10 → AreShort mode_words (length recent)
unfolding mode_words
all_short recent whole = rw whole refl

pushed : (found begins : Bool) (recent new : List ℕ) (b : ℕ) (bs : List ℕ) → length recent ≡ 10 → begins ≡ begins_mode mode_words recent → new ≡ drop 1 recent ++ b ∷ [] → ((found || begins) || holds_mode mode_words (new ++ bs)) ≡ (found || holds_mode mode_words (recent ++ b ∷ bs))
pushed found begins recent new b bs whole is_begins is_new =
    or-assoc found begins (holds_mode mode_words (new ++ bs)) ∙ ap (λ r. found || r) (ap (λ t. t || holds_mode mode_words (new ++ bs)) is_begins ∙ ap (λ t. begins_mode mode_words recent || holds_mode mode_words (t ++ bs)) is_new ∙ sym (holds_mode-shift mode_words recent b bs (omega arith) (all_short recent whole)))

pub returns : goal.returns
returns c = λ bs.
    let s = c.args.self.now in
    pushed s.found c.begins_mode.result s.recent c.shift.new.recent c.args.byte bs s.whole c.begins_mode.ensures c.shift.ensures
