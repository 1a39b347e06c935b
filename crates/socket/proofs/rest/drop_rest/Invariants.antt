use Rattle.socket.specs.Rest.{leaves_rest}
use Rattle.socket.proofs.rest.drop_rest.Given as goal

abbrev pub ghosts-drop_rest_since : goal.ghosts-drop_rest_since
ghosts-drop_rest_since g a = record { calls = a.reader.calls.calls; may_wait = leaves_rest a.status }
