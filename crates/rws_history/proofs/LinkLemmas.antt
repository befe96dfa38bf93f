-- A list of cursors is a map from links to places: what each change of the list makes of a look-up.
use Rattle.std.proofs.Common.{◌≡◌, ◌≢◌, ◌==◌, ℕ, true, false, cond, not, List, [], ◌∷◌, find, Some, None, refl, sym, ◌∙◌, ap, eq-eqb, ne_eqb, ⊎_elim}
use Rattle.std.specs.Option.{option_map}
use Rattle.std.proofs.lemmas.Bool.{eqb-true, cases_eq}
use Rattle.rws_history.specs.declared.cursor_list.LinkCursor.{LinkCursor}
use Rattle.rws_history.specs.Cursors.{is_of, cursor_of, placed, without, lowered, all_lowered}

pub own-placed : (cursors : List LinkCursor) (link at : ℕ) → cursor_of (placed cursors link at) link ≡ Some at
own-placed [] link at = rw (eq-eqb link link refl) refl
own-placed (c ∷ cs) link at =
    elim (c.link == link) as (λ b. (c.link == link) ≡ b → cursor_of (cond b (record { link = link; at = at } ∷ cs) (c ∷ placed cs link at)) link ≡ Some at) [
      | true ↦ λ same. rw (eq-eqb link link refl) refl
      | false ↦ λ apart. rw apart (own-placed cs link at)
    ] refl

pub other-placed : (cursors : List LinkCursor) (link at other : ℕ) → link ≢ other → cursor_of (placed cursors link at) other ≡ cursor_of cursors other
other-placed [] link at other ne = rw (ne_eqb link other ne) refl
other-placed (c ∷ cs) link at other ne =
    elim (c.link == link) as (λ b. (c.link == link) ≡ b → cursor_of (cond b (record { link = link; at = at } ∷ cs) (c ∷ placed cs link at)) other ≡ cursor_of (c ∷ cs) other) [
      | true ↦ λ same.
          let its : c.link ≢ other = λ e. ne (sym (eqb-true c.link link same) ∙ e) in
          rw (ne_eqb link other ne) (rw (ne_eqb c.link other its) refl)
      | false ↦ λ apart. elim (c.link == other) as (λ b. option_map (λ (x : LinkCursor). x.at) (cond b (Some c) (find (is_of other) (placed cs link at)))
          ≡ option_map (λ (x : LinkCursor). x.at) (cond b (Some c) (find (is_of other) cs))) [ true ↦ refl | false ↦ other-placed cs link at other ne ]
    ] refl

pub own-without : (cursors : List LinkCursor) (link : ℕ) → cursor_of (without cursors link) link ≡ None
own-without [] link = refl
own-without (c ∷ cs) link =
    elim (c.link == link) as (λ b. (c.link == link) ≡ b → cursor_of (cond (not b) (c ∷ without cs link) (without cs link)) link ≡ None) [
      | true ↦ λ same. own-without cs link
      | false ↦ λ apart. rw apart (own-without cs link)
    ] refl

pub other-without : (cursors : List LinkCursor) (link other : ℕ) → link ≢ other → cursor_of (without cursors link) other ≡ cursor_of cursors other
other-without [] link other ne = refl
other-without (c ∷ cs) link other ne =
    elim (c.link == link) as (λ b. (c.link == link) ≡ b → cursor_of (cond (not b) (c ∷ without cs link) (without cs link)) other ≡ cursor_of (c ∷ cs) other) [
      | true ↦ λ same.
          let its : c.link ≢ other = λ e. ne (sym (eqb-true c.link link same) ∙ e) in
          rw (ne_eqb c.link other its) (other-without cs link other ne)
      | false ↦ λ apart. elim (c.link == other) as (λ b. option_map (λ (x : LinkCursor). x.at) (cond b (Some c) (find (is_of other) (without cs link)))
          ≡ option_map (λ (x : LinkCursor). x.at) (cond b (Some c) (find (is_of other) cs))) [ true ↦ refl | false ↦ other-without cs link other ne ]
    ] refl

pub each-lowered : (removed : ℕ) (cursors : List LinkCursor) (other : ℕ) → cursor_of (all_lowered removed cursors) other ≡ option_map (lowered removed) (cursor_of cursors other)
each-lowered removed [] other = refl
each-lowered removed (c ∷ cs) other =
    elim (c.link == other) as (λ b. option_map (λ (x : LinkCursor). x.at) (cond b (Some (record { link = c.link; at = lowered removed c.at })) (find (is_of other) (all_lowered removed cs)))
    ≡ option_map (lowered removed) (option_map (λ (x : LinkCursor). x.at) (cond b (Some c) (find (is_of other) cs)))) [
      | true ↦ refl
      | false ↦ each-lowered removed cs other
    ]

pub cursor_of-placed : (cursors : List LinkCursor) (link at other : ℕ) → cursor_of (placed cursors link at) other ≡ cond (other == link) (Some at) (cursor_of cursors other)
cursor_of-placed cursors link at other =
    ⊎_elim
    (λ same. rw (eq-eqb other link same) (ap (cursor_of (placed cursors link at)) same ∙ own-placed cursors link at))
    (λ ne. rw (ne_eqb other link ne) (other-placed cursors link at other (λ e. ne (sym e))))
    (cases_eq other link)

pub cursor_of-without : (cursors : List LinkCursor) (link other : ℕ) → cursor_of (without cursors link) other ≡ cond (other == link) None (cursor_of cursors other)
cursor_of-without cursors link other =
    ⊎_elim
    (λ same. rw (eq-eqb other link same) (ap (cursor_of (without cursors link)) same ∙ own-without cursors link))
    (λ ne. rw (ne_eqb other link ne) (other-without cursors link other (λ e. ne (sym e))))
    (cases_eq other link)
