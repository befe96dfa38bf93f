-- The authentication plugin `mysql_native_password` ("Authentication Plugin - mysql_native_password", in MariaDB's
-- protocol documentation): what a client answers to a scramble, and what a server that stores only
-- `SHA1(SHA1(password))` learns from the answer.
use Rattle.std.specs.Prelude.{ℕ, List, ◌++◌, map, bit_xor, slice_index}
use Rattle.std.specs.List.{range_with_len}
use Rattle.sha1.specs.Sha1.{sha1}

-- two digests, mixed byte by byte
unfoldable pub xor : List ℕ → List ℕ → List ℕ
xor left right = map (λ k. bit_xor (slice_index left k) (slice_index right k)) (range_with_len 0 20)

-- the mask of a connection: `SHA1(scramble ++ stored)`
abbrev pub mask : List ℕ → List ℕ → List ℕ
mask scramble stored = sha1 (scramble ++ stored)

-- the answer of one who knows the first stage, `SHA1(password)`
abbrev pub answer_of : List ℕ → List ℕ → List ℕ
answer_of stage1 scramble = xor stage1 (mask scramble (sha1 stage1))

-- the first stage that an answer holds for one who knows the stored value
abbrev pub stage1_in : List ℕ → List ℕ → List ℕ → List ℕ
stage1_in answer scramble stored = xor answer (mask scramble stored)
