-- When two records go on alike: they have the same values, but for those by which nothing is done.
use Rattle.std.specs.Prelude.{◌≡◌, ℕ, List}
use Rattle.rws_config.specs.declared.config.Config.{Config}
use Rattle.rws_record.specs.Item.{Item}
use Rattle.rws_record.specs.Values as values
use Rattle.rws_record.specs.Rules as rules

pub record Agrees (config : Config) (one other : List Item) : Type 0 where
  -- the client's side
  pub fronted : values.fronted config one ≡ values.fronted config other
  pub login_of : values.login_of config one ≡ values.login_of config other
  -- the links
  pub links : values.links one ≡ values.links other
  pub server_of : (link : ℕ) → values.server_of link one ≡ values.server_of link other
  pub linked : (link : ℕ) → values.linked link one ≡ values.linked link other
  pub asked_on : (link : ℕ) → values.asked_on link one ≡ values.asked_on link other
  pub named_on : (link : ℕ) → values.named_on link one ≡ values.named_on link other
  pub value_on : (link : ℕ) → values.value_on link one ≡ values.value_on link other
  pub is_up : (link : ℕ) → values.is_up link one ≡ values.is_up link other
  pub cursor : (link : ℕ) → values.cursor link one ≡ values.cursor link other
  -- the client's command
  pub pending : values.pending one ≡ values.pending other
  pub sent_on : values.sent_on one ≡ values.sent_on other
  pub told_from : values.told_from one ≡ values.told_from other
  pub reply_number : values.reply_number one ≡ values.reply_number other
  pub routing : values.routing config one ≡ values.routing config other
  -- the session
  pub kept_on : values.kept_on one ≡ values.kept_on other
  pub serials : values.serials one ≡ values.serials other
  pub banned : values.banned one ≡ values.banned other
  pub now : values.now one ≡ values.now other
  pub own : values.own one ≡ values.own other
  pub transaction : values.transaction config one ≡ values.transaction config other
  pub statements : values.statements config one ≡ values.statements config other
  pub asking : values.asking one ≡ values.asking other
  pub is_over : values.is_over one ≡ values.is_over other
  -- and what it owes
  pub owed : rules.owed config one ≡ rules.owed config other
