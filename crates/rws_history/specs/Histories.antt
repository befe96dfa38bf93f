-- What a history holds, and what each call makes of it.
use Rattle.std.specs.Prelude.{ℕ, ◌≤◌, List, [], ◌∷◌, ◌++◌, length, remove, All}
use Rattle.rws_history.specs.declared.entry.Entry.{Entry}
use Rattle.rws_history.specs.declared.cursor_list.LinkCursor.{LinkCursor}
use Rattle.rws_history.specs.Cursors.{cursor_of, placed, moved, without, lowered, all_lowered}

pub record HistoryView : Type 0 where
  pub limit : ℕ
  pub entries : List Entry
  pub cursors : List LinkCursor
  pub mark : ℕ

abbrev pub new_history : ℕ → HistoryView
new_history limit = record { limit = limit; entries = []; cursors = []; mark = 0 }

abbrev pub pushed : HistoryView → Entry → HistoryView
pushed history entry = record history { entries = history.entries ++ entry ∷ [] }

-- without the entry at this place; the mark and the cursors that lie above it are lowered
abbrev pub removed : HistoryView → ℕ → HistoryView
removed history place = record history {
  entries = remove history.entries place;
  cursors = all_lowered place history.cursors;
  mark = lowered place history.mark;
}

-- with this link, which has taken no entry
abbrev pub link_added : HistoryView → ℕ → HistoryView
link_added history link = record history { cursors = placed history.cursors link 0 }

-- this link has taken one entry more
abbrev pub advanced : HistoryView → ℕ → HistoryView
advanced history link = record history { cursors = moved history.cursors link (cursor_of history.cursors link) }

abbrev pub link_dropped : HistoryView → ℕ → HistoryView
link_dropped history link = record history { cursors = without history.cursors link }

-- the mark stands at the end of the list
abbrev pub mark_set : HistoryView → HistoryView
mark_set history = record history { mark = length history.entries }

-- there are no more entries than the limit, and the mark and each cursor are places in the list or its end
pub record IsHistory (history : HistoryView) : Type 0 where
  pub bounded : length history.entries ≤ history.limit
  pub mark : history.mark ≤ length history.entries
  pub cursors : All (λ (cursor : LinkCursor). cursor.at ≤ length history.entries) history.cursors
