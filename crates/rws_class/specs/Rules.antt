-- The classes of statements by their first word. Each rule speaks of a statement's whole list of places,
-- from its first word on.
use Rattle.std.specs.Prelude.{Bool, not, ◌&&◌, ◌||◌, if◌then◌else◌, List, [], ◌∷◌, codes}
use Rattle.std.specs.List.{list_any}
use Rattle.rws_token.specs.declared.token.TokenKind.TheVariants.{SysVar, Assign}
use Rattle.rws_token.specs.Lexeme.{is_kind, is_word, is_symbol}
use Rattle.rws_words.specs.Words.{is_one_of, words}
use Rattle.rws_words.specs.Places.{Place, is_next, is_named, opens, is_primary_call, is_foreign_call}
use Rattle.rws_class.specs.declared.class.Class.{Class}
use Rattle.rws_class.specs.declared.class.Class.TheVariants.{Read, PrimaryRead, Write, Ddl, Other}

-- it sets a variable, or calls what isn't known
abbrev pub reaches_out : Place → Bool
reaches_out p = is_kind p.this.kind Assign || is_foreign_call p

-- Queries ------------------------------------------------------------------------------------------

-- the next value of a sequence, or the last one
abbrev pub is_sequence : Place → Bool
is_sequence p = is_one_of (words (codes "NEXT PREVIOUS")) p.this && is_next (is_word (codes "VALUE")) p

abbrev pub is_no_query : Place → Bool
is_no_query p = (reaches_out p || is_one_of (words (codes "INTO PROCEDURE")) p.this) || is_sequence p

abbrev pub locks_rows : Place → Bool
locks_rows p =
    (is_word (codes "FOR") p.this && is_next (is_one_of (words (codes "UPDATE SHARE"))) p)
    || (is_word (codes "LOCK") p.this && is_next (is_word (codes "IN")) p)

-- tables that say what a server itself does or holds
abbrev pub is_of_server : Place → Bool
is_of_server p =
    is_named (words (codes "INFORMATION_SCHEMA PERFORMANCE_SCHEMA")) p.this
    || (is_named (words (codes "MYSQL SYS")) p.this && is_next (is_symbol 46) p)

-- what a connection, or its server, knows of itself
abbrev pub asks_connection : Place → Bool
asks_connection p =
    (is_kind p.this.kind SysVar || is_primary_call p) || is_word (codes "SQL_CALC_FOUND_ROWS") p.this

-- what may differ from server to server
abbrev pub needs_primary : Place → Bool
needs_primary p = asks_connection p || is_of_server p

abbrev pub query_class : List Place → Class
query_class ps =
    if list_any is_no_query ps then Other
    else (if list_any locks_rows ps then Write
    else (if list_any needs_primary ps then PrimaryRead else Read))

-- What a server shows --------------------------------------------------------------------------------

abbrev pub show_class : List Place → Class
show_class ps = if list_any reaches_out ps then Other else PrimaryRead

-- Changes of rows ------------------------------------------------------------------------------------

abbrev pub change_class : List Place → Class
change_class ps = if list_any reaches_out ps then Other else Write

-- An INSERT's or REPLACE's first parenthesis opens its list of columns, where none of these words
-- stands before it.
abbrev pub ends_columns : Place → Bool
ends_columns p = is_one_of (words (codes "SET SELECT VALUES VALUE")) p.this

abbrev pub behind_columns : List Place → List Place
behind_columns [] = []
behind_columns (p ∷ ps) =
    if ends_columns p then p ∷ ps
    else (if opens p then ps else behind_columns ps)

abbrev pub is_assign : Place → Bool
is_assign p = is_kind p.this.kind Assign

abbrev pub insert_class : List Place → Class
insert_class ps =
    if list_any is_assign ps || list_any is_foreign_call (behind_columns ps) then Other else Write

-- Changes of definitions -----------------------------------------------------------------------------

abbrev pub is_no_ddl : Place → Bool
is_no_ddl p = is_word (codes "TEMPORARY") p.this || is_assign p

abbrev pub define_class : List Place → Class
define_class ps = if list_any is_no_ddl ps then Other else Ddl

-- rows come from a query, or from VALUES, which LESS or IN turn into the bounds of a partition
abbrev pub is_source : Place → Bool
is_source p =
    is_word (codes "SELECT") p.this
    || (is_word (codes "VALUES") p.this && not (is_next (is_one_of (words (codes "LESS IN"))) p))

abbrev pub behind_source : List Place → List Place
behind_source [] = []
behind_source (p ∷ ps) = if is_source p then ps else behind_source ps

abbrev pub create_class : List Place → Class
create_class ps =
    if list_any is_no_ddl ps || list_any is_foreign_call (behind_source ps) then Other else Ddl
