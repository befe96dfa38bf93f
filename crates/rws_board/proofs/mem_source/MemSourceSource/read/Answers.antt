-- The bytes copied and those behind them are the bytes that were left.
use Rattle.std.proofs.Common.{◌≡◌, ℕ, ◌+◌, ◌≤◌, ◌<◌, min, List, [], ◌++◌, length, take, drop, sym, arith, length-append}
use Rattle.std.proofs.lemmas.List.{take_at, length-take, length-take-le, drop-drop, take-append-drop, drop_all, length-drop, take_rest}
use Rattle.rws_board.proofs.mem_source.MemSourceSource.read.Goals as goal

reads_front : (bytes copied tail : List ℕ) (start count : ℕ) → copied ≡ take count (drop start bytes) → count ≤ length (drop start bytes) → drop start bytes ≡ take count (copied ++ tail) ++ drop (start + count) bytes
reads_front bytes copied tail start count is within =
    let whole : length copied ≡ count = rw is (length-take-le count (drop start bytes) within) in
    rw (take_at copied tail count whole, is, ← drop-drop count start bytes) (sym (take-append-drop count (drop start bytes)))

-- none are read with room for some only where none are left
reads_none : (bytes : List ℕ) (start count room : ℕ) → count ≡ min room (length (drop start bytes)) → count ≡ 0 → 0 < room → drop (start + count) bytes ≡ []
reads_none bytes start count room is none some = drop_all (start + count) bytes (omega (arith, length-drop start bytes))

-- a buffer whose front was written still has its length
has_room : (buffer copied : List ℕ) (count : ℕ) → length copied ≡ length (take count buffer) → count ≡ 0 → 0 < length (copied ++ drop count buffer) → 0 < length buffer
has_room buffer copied count same none some =
    omega (arith, length-append copied (drop count buffer), length-take count buffer, length-drop count buffer)

pub returns-clause-bytes : goal.returns-clause-bytes
returns-clause-bytes c =
    let bytes = c.self.inside.bytes in
    let start = c.self.inside.start in
    let rest = take_rest bytes start in
    let copied = rw (c.as_slice.ensures, rest) at c.copy_from_slice.ensures.after in
    let count = rw (c.as_slice.ensures, rest) at c.min-count.ensures in
    rw (← c.self.view_is) (
      reads_front bytes c.copy_from_slice.new.self _ start c.min-count.result copied (omega (arith, count)),
      λ none some. reads_none bytes start c.min-count.result (length c.args.buffer.now) count none (has_room c.args.buffer.now c.copy_from_slice.new.self c.min-count.result c.copy_from_slice.ensures.len none some),
    )
