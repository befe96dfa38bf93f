-- what a client's front, and a link's login, say
pub mod FrontLemmas
pub mod HandshakeLemmas
-- when a session asks the worker, and how far its client is
pub mod AskedLemmas
pub mod EnteringLemmas
-- what a legal record keeps true
pub mod ListLemmas
pub mod Sound
pub mod LinksLemmas
pub mod CameLemmas
pub mod LostLemmas
pub mod ReplyLemmas
pub mod CheckLemmas
pub mod RoutedLemmas
pub mod CommandLemmas
pub mod OwedLemmas
pub mod CheckedLemmas
pub mod GivenLemmas
pub mod SoundLemmas
pub mod WantedLemmas
-- the law on causes
pub mod PreparedLemmas
pub mod HistoryLemmas
pub mod CausesLemmas
-- the law on what a client has where a reply ended
pub mod BytesLemmas
pub mod HandleLemmas
pub mod WholeLemmas
-- the law on what has set a session on its links
pub mod PlacedLemmas
pub mod SharedLemmas
-- the laws on where a command goes
pub mod OnceLemmas
pub mod GoingLemmas
pub mod AimedLemmas
pub mod HiddenLemmas
pub mod PinnedLemmas
pub mod ItemLemmas
pub mod SettledLemmas
pub mod WritesLemmas
-- the laws on commits, and on what reads see
pub mod CommitLemmas
pub mod ReadLemmas
pub mod OnceAskedLemmas
-- the law on what counts for a transaction
pub mod CountsLemmas
-- the law on what a session that rests has answered
pub mod EndedLemmas
pub mod UpLemmas
pub mod LinkIdLemmas
pub mod NamedLemmas
pub mod FollowLemmas
pub mod IdLemmas
pub mod KnownLemmas
pub mod SendableLemmas
pub mod AwaitedLemmas
pub mod AnswersLemmas
mod TransactionLemmas
mod BarredLemmas
-- the law on what goes on a link for an execute
pub mod FormLemmas
-- and on the id under which it goes
pub mod GivenIdLemmas
