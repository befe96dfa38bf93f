-- What the payloads of a reply are. Bytes alone don't tell it: behind two definitions 00 00 00 02 40 00 00 is a row that can also
-- be read as an OK, and behind rows it never is one. In a whole reply each payload has the role of its place in the grammar.
use Rattle.std.specs.Prelude.{ℕ, Bool, true, List, [], ◌∷◌, ◌++◌, map, is_some}
use Rattle.rws_msgs.specs.OkLayout.{ok_status}
use Rattle.rws_msgs.specs.ErrLayout.{err_code}
use Rattle.rws_reply.specs.declared.kind.Kind.{Kind}
use Rattle.rws_reply.specs.declared.kind.Kind.TheVariants as kinds
use Rattle.rws_reply.specs.declared.kind.Outcome.{Outcome}
use Rattle.rws_reply.specs.declared.role.Role.{Role}
use Rattle.rws_reply.specs.declared.role.Role.TheVariants.{Ok, Err, Prepared, Count, Definition, Eof, Row}
use Rattle.rws_reply.specs.Payloads.{eof_status, column_count, is_definition, is_row, prepared_counts}
use Rattle.rws_reply.specs.Replies as replies
use Rattle.rws_reply.specs.Replies.{Payload, IsHead, IsSimple, IsQuery, IsPart, IsPrepare, IsFieldList, IsReply}

-- the payload can be read so
abbrev pub reads_as : Role → Payload → Bool
reads_as Ok payload = is_some (ok_status true payload)
reads_as Err payload = is_some (err_code payload)
reads_as Prepared payload = is_some (prepared_counts payload)
reads_as Count payload = is_some (column_count payload)
reads_as Definition payload = is_definition payload
reads_as Eof payload = is_some (eof_status payload)
reads_as Row payload = is_row payload

-- a role for each of these payloads
abbrev pub definition_roles : List Payload → List Role
definition_roles definitions = map (λ _. Definition) definitions

abbrev pub row_roles : List Payload → List Role
row_roles rows = map (λ _. Row) rows

abbrev pub roles_of_head : {front : List Payload} → IsHead front → List Role
roles_of_head (replies.head count definitions eof _ _ _) = Count ∷ (definition_roles definitions ++ (Eof ∷ []))

abbrev pub roles_of_simple : {payloads : List Payload} {out : Outcome} → IsSimple payloads out → List Role
roles_of_simple (replies.ok _) = Ok ∷ []
roles_of_simple (replies.err _) = Err ∷ []

abbrev pub roles_of_query : {payloads : List Payload} {out : Outcome} → IsQuery payloads out → List Role
roles_of_query (replies.ok _ _) = Ok ∷ []
roles_of_query (replies.ok_more _ _ others) = Ok ∷ roles_of_query others
roles_of_query (replies.err _) = Err ∷ []
roles_of_query (replies.rows front rs p front_is _ _ _) = roles_of_head front_is ++ (row_roles rs ++ (Eof ∷ []))
roles_of_query (replies.rows_more front rs p others front_is _ _ _ reply) = roles_of_head front_is ++ (row_roles rs ++ (Eof ∷ roles_of_query reply))
roles_of_query (replies.rows_err front rs p front_is _ _) = roles_of_head front_is ++ (row_roles rs ++ (Err ∷ []))

abbrev pub roles_of_part : {count from to : ℕ} {payloads : List Payload} → IsPart count payloads from to → List Role
roles_of_part replies.none = []
roles_of_part (replies.some definitions eof _ _ _) = definition_roles definitions ++ (Eof ∷ [])

abbrev pub roles_of_prepare : {payloads : List Payload} {out : Outcome} → IsPrepare payloads out → List Role
roles_of_prepare (replies.err _) = Err ∷ []
roles_of_prepare (replies.prepared p parameters columns _ first second) = Prepared ∷ (roles_of_part first ++ roles_of_part second)

abbrev pub roles_of_field_list : {payloads : List Payload} {out : Outcome} → IsFieldList payloads out → List Role
roles_of_field_list (replies.err _) = Err ∷ []
roles_of_field_list (replies.fields definitions p _ _) = definition_roles definitions ++ (Eof ∷ [])

-- the roles of the payloads of a whole reply, one for each
abbrev pub roles_of : (kind : Kind) (payloads : List Payload) (out : Outcome) → IsReply kind payloads out → List Role
roles_of kinds.Simple payloads out reply = roles_of_simple reply
roles_of kinds.Query payloads out reply = roles_of_query reply
roles_of kinds.Prepare payloads out reply = roles_of_prepare reply
roles_of kinds.FieldList payloads out reply = roles_of_field_list reply
