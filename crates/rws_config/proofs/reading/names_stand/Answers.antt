use Rattle.rws_wire.specs.Reading.{◌>>=◌}
use Rattle.rws_config.specs.Settings.{few_servers, no_repeat, server_names, user_names}
use Rattle.rws_config.proofs.GivesLemmas.{both_pass, first_refuses, second_refuses}
use Rattle.rws_config.proofs.reading.names_stand.Goals as goal

pub returns-in_err-few_servers : goal.returns-in_err-few_servers
returns-in_err-few_servers c =
    let config = c.args.config.now in
    first_refuses c.from_residual.result c.in_err-few_servers.field-0.0 (few_servers config.servers) (λ _. no_repeat (server_names config) >>= (λ _. no_repeat (user_names config)))
    c.from_residual.ensures.1 c.in_err-few_servers.ensures

pub returns-in_err-server_names_once : goal.returns-in_err-server_names_once
returns-in_err-server_names_once c =
    let config = c.args.config.now in
    second_refuses c.from_residual-in_err-server_names_once.result c.in_err-server_names_once.field-0.0 (few_servers config.servers) c.in_ok-few_servers.field-0 (no_repeat (server_names config)) (no_repeat (user_names config))
    c.in_ok-few_servers.ensures c.from_residual-in_err-server_names_once.ensures.1 c.in_err-server_names_once.ensures

pub returns : goal.returns
returns c =
    let config = c.args.config.now in
    both_pass c.users_once.result (few_servers config.servers) c.in_ok-few_servers.field-0 (no_repeat (server_names config)) c.in_ok-server_names_once.field-0 (no_repeat (user_names config))
    c.in_ok-few_servers.ensures c.in_ok-server_names_once.ensures c.users_once.ensures
