-- lemmas for the crates above
pub mod WordsSolved
pub mod ProofsMade
pub mod ClaimsVisited
pub mod ClaimsMade
pub mod NodesShort
pub mod DeterminedEnds
pub mod WordsVisited
pub mod SamplesFound
pub mod OrdersOnce
pub mod OrdersSound
pub mod SpentSplits
mod TableausInRange
mod SplitsFit
pub mod NodesWritten
mod DeterminedNodes
mod DeterminedOutcomes
mod DeterminedValues
mod DeterminedVisits
mod VertexTaken
mod Vertices
pub mod Nodes
mod WalkSoFar
mod LeavesCounted
mod PairSystems
mod OrderSteps
mod SearchesEnd
mod WalksEnd
mod SearchesMoved
mod VisitsJoined
mod EndsBehind
mod RootsListed
mod PartsMerged
mod NodesCounted
mod Passes
mod FewBounds
mod WordSoFar
mod ChildrenOnce
mod SubtreesApart
mod Common
mod Answered
mod FewUnknowns
pub mod NodesMade
pub mod RunsOnce
mod RowsMet
mod Taken
pub mod WholeNodes
mod FormsStay
mod EndsShown
mod FewMoments
mod QuestionsAsked
mod ScaledRows
mod ScaledQuestions
mod NoneSplit
mod FewQuestions
mod FiniteTrees
mod ConesDecided
mod NodesKnown
mod Lowest
pub mod Fitting
mod MergedTerms
mod Ordering
