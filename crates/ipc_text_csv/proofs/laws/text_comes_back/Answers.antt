use Rattle.ipc_text_csv.proofs.ReadBack.{comes_back}
use Rattle.ipc_text_csv.proofs.laws.text_comes_back.Goals as goal

pub returns : goal.returns
returns c d fields rows header text head typed written = comes_back d fields rows header text head typed written
