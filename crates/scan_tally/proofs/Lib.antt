pub mod TallyAnswers
