-- A link as a session keeps it: of a record what its later steps depend on.
use Rattle.std.specs.Prelude.{ℕ, false, List, None}
use Rattle.std.specs.Option.{option_map}
use Rattle.rws_native.specs.declared.login.Login.{Login}
use Rattle.rws_result.specs.declared.one_value.OneValue.TheVariants.{Begins}
use Rattle.rws_link.specs.Linking.{kept}
use Rattle.rws_link.specs.Stepping.{opened}
use Rattle.rws_record.specs.Item.{Item, Purpose}
use Rattle.rws_record.specs.Item.Purpose.{Prepares, Asks, Plays, Waits, Probes}
use Rattle.rws_record.specs.Values.{asked_on, cursor as played_on, is_up, linked, named_on, server_of, value_on}
use Rattle.rws_links.specs.declared.numbered.Asked.{Asked}
use Rattle.rws_links.specs.declared.numbered.Asked.TheVariants.{Preamble, Entry as AnEntry, Command as ACommand, Wait, Probe}
use Rattle.rws_links.specs.declared.numbered.NumberedLink.{NumberedLink}

-- what code needs to know of why something was sent on a link
abbrev pub asked_for : Purpose → Asked
asked_for Prepares = Preamble
asked_for (Asks command id) = ACommand
asked_for (Plays entry) = AnEntry entry.serial entry.statement
asked_for (Waits gtid seconds) = Wait
asked_for (Probes gtid) = Probe gtid

-- a link by its number
abbrev pub link_of : List Item → ℕ → NumberedLink
link_of past number = record {
  number = number;
  server = server_of number past;
  is_up = is_up number past;
  asked = option_map asked_for (asked_on number past);
  named = named_on number past;
  value = value_on number past;
  cursor = played_on number past;
  link = kept (linked number past);
}

abbrev pub number_of : NumberedLink → ℕ
number_of link = link.number

-- a link that was just opened
abbrev pub new_link : (link server : ℕ) → Login → NumberedLink
new_link link server login = record {
  number = link;
  server = server;
  is_up = false;
  asked = None;
  named = None;
  value = Begins;
  cursor = 0;
  link = kept (opened login);
}
