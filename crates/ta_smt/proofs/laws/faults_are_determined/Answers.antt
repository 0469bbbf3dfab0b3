use Rattle.ta_smt.proofs.FaultsOnce.{admit_faults_once, whole_faults_once, word_faults_once}
use Rattle.ta_smt.proofs.laws.faults_are_determined.Goals as goal

pub returns-clause-values : goal.returns-clause-values
returns-clause-values c = admit_faults_once

pub returns-clause-words : goal.returns-clause-words
returns-clause-words c = word_faults_once

pub returns-clause-whole : goal.returns-clause-whole
returns-clause-whole c = whole_faults_once
