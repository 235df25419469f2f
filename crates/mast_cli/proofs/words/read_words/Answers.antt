-- The number of workers is one that the words say.
use Rattle.std.proofs.Common.{map, string_bytes}
use Rattle.mast_cli.proofs.ArgumentsLemmas.{has_workers}
use Rattle.mast_cli.proofs.words.read_words.Goals as goal

pub returns-clause-workers : goal.returns-clause-workers
returns-clause-workers c = has_workers (map string_bytes c.args.words.now) c.task_in.result c.task_in.ensures
