-- The lists of words. Their case doesn't count.
use Rattle.std.specs.Prelude.{ℕ, Bool, ◌&&◌, ◌==◌, if◌then◌else◌, List, [], ◌∷◌, ◌++◌, codes}
use Rattle.std.specs.List.{list_any}
use Rattle.rws_token.specs.declared.token.TokenKind.TheVariants.{Word}
use Rattle.rws_token.specs.Lexeme.{Lexeme, is_kind, same_word}

-- a byte in front of the first word
abbrev pub onto_first : ℕ → List (List ℕ) → List (List ℕ)
onto_first b [] = (b ∷ []) ∷ []
onto_first b (word ∷ rest) = (b ∷ word) ∷ rest

-- the words of a text, with one blank between two
abbrev pub words : List ℕ → List (List ℕ)
words [] = [] ∷ []
words (b ∷ bs) = if b == 32 then [] ∷ words bs else onto_first b (words bs)

-- words that no call begins with: a parenthesis behind one opens a list, a query or an operand
unfoldable pub key_words : List (List ℕ)
key_words =
    words (codes "ALL AND ANY AS BETWEEN BY CASE DISTINCT ELSE EXISTS EXCEPT FROM HAVING IN INDEX")
    ++ words (codes "INTERSECT INTERVAL JOIN KEY LIKE NOT ON OR OVER PARTITION SELECT SET SOME THEN UNION")
    ++ words (codes "USING VALUE VALUES WHEN WHERE WITH XOR")

-- functions that read no more than their arguments, clocks and random numbers
unfoldable pub pure_names : List (List ℕ)
pure_names =
    words (codes "ABS AVG CAST CEIL CEILING CHAR_LENGTH CHARACTER_LENGTH COALESCE CONCAT CONCAT_WS CONVERT")
    ++ words (codes "COUNT CURDATE CURRENT_DATE CURRENT_TIME CURRENT_TIMESTAMP CURRENT_USER CURTIME DATABASE")
    ++ words (codes "DATE DATE_ADD DATE_FORMAT DATE_SUB DATEDIFF DAY DAYOFMONTH DAYOFWEEK DAYOFYEAR")
    ++ words (codes "DENSE_RANK FIELD FIND_IN_SET FIRST_VALUE FLOOR FORMAT FROM_UNIXTIME GREATEST")
    ++ words (codes "GROUP_CONCAT HEX HOUR IF IFNULL INSTR ISNULL JSON_ARRAY JSON_EXTRACT JSON_OBJECT")
    ++ words (codes "JSON_UNQUOTE JSON_VALUE LAG LAST_VALUE LCASE LEAD LEAST LEFT LENGTH LOCALTIME LOCATE")
    ++ words (codes "LOWER LPAD LTRIM MAX MD5 MIN MINUTE MOD MONTH NOW NULLIF POSITION POW POWER QUARTER RAND")
    ++ words (codes "RANK REPEAT REPLACE REVERSE RIGHT ROUND ROW_NUMBER RPAD RTRIM SCHEMA SECOND SHA1 SHA2")
    ++ words (codes "SIGN SQRT STD STR_TO_DATE SUBSTR SUBSTRING SUBSTRING_INDEX SUM SYSDATE TIME TIMESTAMPADD")
    ++ words (codes "TIMESTAMPDIFF TRIM TRUNCATE UCASE UNHEX UNIX_TIMESTAMP UPPER USER UTC_TIMESTAMP UUID")
    ++ words (codes "WEEK WEEKDAY YEAR")

-- functions whose answer may differ from server to server
unfoldable pub primary_names : List (List ℕ)
primary_names = words (codes "CONNECTION_ID FOUND_ROWS LAST_INSERT_ID ROW_COUNT VERSION")

-- variables of a session that a client may set and that can be set again on other connections
unfoldable pub setting_names : List (List ℕ)
setting_names =
    words (codes "AUTOCOMMIT CHARACTER_SET_CLIENT CHARACTER_SET_CONNECTION CHARACTER_SET_RESULTS")
    ++ words (codes "COLLATION_CONNECTION DIV_PRECISION_INCREMENT FOREIGN_KEY_CHECKS GROUP_CONCAT_MAX_LEN")
    ++ words (codes "INNODB_LOCK_WAIT_TIMEOUT INTERACTIVE_TIMEOUT LC_TIME_NAMES LOCK_WAIT_TIMEOUT")
    ++ words (codes "MAX_STATEMENT_TIME NET_READ_TIMEOUT NET_WRITE_TIMEOUT OPTIMIZER_SWITCH SQL_AUTO_IS_NULL")
    ++ words (codes "SQL_MODE SQL_SAFE_UPDATES SQL_SELECT_LIMIT TIME_ZONE TRANSACTION_ISOLATION")
    ++ words (codes "TRANSACTION_READ_ONLY TX_ISOLATION TX_READ_ONLY UNIQUE_CHECKS WAIT_TIMEOUT")

-- character sets in which a byte below 0x80 is always a character of its own
unfoldable pub character_sets : List (List ℕ)
character_sets = words (codes "UTF8 UTF8MB3 UTF8MB4 LATIN1 ASCII BINARY")

-- variables that replication and the proxy itself stand on
unfoldable pub refused_names : List (List ℕ)
refused_names =
    words (codes "SESSION_TRACK_SYSTEM_VARIABLES GTID_DOMAIN_ID GTID_SEQ_NO SERVER_ID SQL_LOG_BIN")
    ++ words (codes "SKIP_REPLICATION")

-- a word is on a list
abbrev pub is_on : List (List ℕ) → List ℕ → Bool
is_on names word = list_any (same_word word) names

-- a word of a list
abbrev pub is_one_of : List (List ℕ) → Lexeme → Bool
is_one_of names t = is_kind t.kind Word && is_on names t.bytes
