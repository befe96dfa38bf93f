use Rattle.std.proofs.Common.{◌≡◌, map, take}
use Rattle.rws_config.specs.declared.server.Server.{Server}
use Rattle.rws_config.proofs.repeats.names_of_servers.Given as goal

abbrev pub invariant-loop-server : goal.invariant-loop-server
invariant-loop-server l = l.names ≡ map (λ (server : Server). server.name) (take l.server-index l.servers)
