use Rattle.sarif_log.specs.Words.{kind_word}
use Rattle.sarif_log.proofs.words.kind_words.Goals as goal

pub returns-in-Name : goal.returns-in-Name
unfolding kind_word
returns-in-Name c = rw c.in-Name.is

pub returns-in-String : goal.returns-in-String
unfolding kind_word
returns-in-String c = rw c.in-String.is

pub returns-in-Bytes : goal.returns-in-Bytes
unfolding kind_word
returns-in-Bytes c = rw c.in-Bytes.is

pub returns-in-Integer : goal.returns-in-Integer
unfolding kind_word
returns-in-Integer c = rw c.in-Integer.is

pub returns-in-Float : goal.returns-in-Float
unfolding kind_word
returns-in-Float c = rw c.in-Float.is
