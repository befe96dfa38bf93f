-- What a reader of a statement keeps, as the class that it stands for if these places are left.
use Rattle.std.specs.Prelude.{ℕ, Bool, true, false, not, ◌&&◌, ◌||◌, if◌then◌else◌, Option, Some, None, is_some, List, filter}
use Rattle.std.specs.List.{list_any}
use Rattle.rws_token.specs.Lexeme.{Lexeme}
use Rattle.rws_token.specs.Lexemes.{Ahead}
use Rattle.rws_words.specs.Places.{Place, places_from, tokens_of, opens, is_foreign_call}
use Rattle.rws_set.specs.States.{items_left}
use Rattle.rws_class.specs.Numbers.{is_unfit}
use Rattle.rws_class.specs.Rules.{reaches_out, is_no_query, locks_rows, needs_primary, is_assign, ends_columns, behind_columns, is_no_ddl, behind_source}
use Rattle.rws_class.specs.FirstTokens.{fixed_left}
use Rattle.rws_class.specs.Classes.{is_refused, effect_class, or_else, statement_class, is_no_semicolon}
use Rattle.rws_class.specs.declared.class.Class.{Class}
use Rattle.rws_class.specs.declared.class.Class.TheVariants.{Read, PrimaryRead, Write, Ddl, Refused, Other}
use Rattle.rws_class.specs.declared.reader.Query as query
use Rattle.rws_class.specs.declared.reader.Insert as insert
use Rattle.rws_class.specs.declared.reader.Create as create
use Rattle.rws_class.specs.declared.set.SetReader.{SetReader}
use Rattle.rws_class.specs.declared.statement.Statement.{Statement}
use Rattle.rws_class.specs.declared.statement.Statement.TheVariants.{Query, Show, Change, Insert, Create, Define, Fixed, Set, Unknown}
use Rattle.rws_class.specs.declared.statement.Reader.{Reader}

abbrev pub query_left : query.Query → List Place → Class
query_left q ps =
    if q.no_query || list_any is_no_query ps then Other
    else (if q.locks_rows || list_any locks_rows ps then Write
    else (if q.needs_primary || list_any needs_primary ps then PrimaryRead else Read))

-- the calls that count, before and behind the list of columns
abbrev pub calls_left : Bool → (List Place → List Place) → List Place → Bool
calls_left true behind ps = list_any is_foreign_call (behind ps)
calls_left false behind ps = list_any is_foreign_call ps

abbrev pub insert_left : insert.Insert → List Place → Class
insert_left s ps =
    if (s.reaches_out || list_any is_assign ps) || calls_left s.before_columns behind_columns ps then Other
    else Write

abbrev pub create_left : create.Create → List Place → Class
create_left s ps =
    if (s.no_ddl || list_any is_no_ddl ps) || calls_left s.before_source behind_source ps then Other else Ddl

-- this place is a call that counts
abbrev pub calls_out : Bool → Place → Bool
calls_out before_columns p =
    not ((before_columns && not (ends_columns p)) && opens p) && is_foreign_call p

-- a SET that has a fixed form of this class, or none
abbrev pub set_left : SetReader → Class → List Place → Class
set_left s form ps =
    if s.refused || list_any is_refused ps then Refused
    else or_else form (effect_class (items_left s.items ps))

abbrev pub show_left : Bool → List Place → Class
show_left out ps = if out || list_any reaches_out ps then Other else PrimaryRead

abbrev pub change_left : Bool → List Place → Class
change_left out ps = if out || list_any reaches_out ps then Other else Write

abbrev pub define_left : Bool → List Place → Class
define_left no_ddl ps = if no_ddl || list_any is_no_ddl ps then Other else Ddl

-- a statement that has a fixed form of this class, or none
abbrev pub statement_left : Statement → Class → List Place → Class
statement_left (Query reader) form ps = query_left reader ps
statement_left (Show out) form ps = show_left out ps
statement_left (Change out) form ps = change_left out ps
statement_left (Insert reader) form ps = insert_left reader ps
statement_left (Create reader) form ps = create_left reader ps
statement_left (Define no_ddl) form ps = define_left no_ddl ps
statement_left Fixed form ps = form
statement_left (Set reader) form ps = set_left reader form ps
statement_left Unknown form ps = Other

-- how deep in parentheses a statement's items are
abbrev pub depth_of : Statement → ℕ
depth_of (Set reader) = reader.items.walk.depth
depth_of _ = 0

abbrev pub begun_left : Option Statement → (List Place → Class) → List Place → Class
begun_left None form ps = statement_class ps
begun_left (Some statement) form ps = statement_left statement (form ps) ps

abbrev pub reader_left : Reader → List Place → Class
reader_left r ps = begun_left r.statement (λ qs. fixed_left r.first_tokens (tokens_of qs)) ps

abbrev pub depth_begun : Option Statement → ℕ
depth_begun None = 0
depth_begun (Some statement) = depth_of statement

abbrev pub reader_depth : Reader → ℕ
reader_depth r = depth_begun r.statement

abbrev pub places_left : Reader → List Place → Class
places_left reader ps =
    if list_any is_unfit ps then Other else reader_left reader (filter is_no_semicolon ps)

-- the class of a text of which this token comes next, and then what is ahead
abbrev pub class_left : Reader → Bool → Lexeme → Ahead → Class
class_left reader after_dot t left =
    if is_some left.fault then Other else places_left reader (places_from after_dot t left.lexemes)
