use Rattle.reader.specs.Lines.{blank, in_token}
use Rattle.reader.proofs.tokens.next_token.Given as goal

abbrev pub ghost-span : goal.ghost-span
ghost-span a = blank

abbrev pub ghost-span-2 : goal.ghost-span-2
ghost-span-2 a = in_token
